use Rattle.std.proofs.Common.{◌∷◌, [], refl}
use Rattle.test_lang.specs.declared.op.MemModel.TheVariants.{Sc, Tso, Pso, Weak}
use Rattle.test_lang.specs.Litmus.{message_passing_fences}
use Rattle.test_lang.proofs.Examples.{canonical_cycle}
use Rattle.test_lang.proofs.litmus.message_passing_with_fences.Goals as goal

pub returns-clause-sc : goal.returns-clause-sc
returns-clause-sc c = canonical_cycle Sc message_passing_fences (2 ∷ 0 ∷ []) (0 ∷ 2 ∷ 3 ∷ 5 ∷ []) refl

pub returns-clause-tso : goal.returns-clause-tso
returns-clause-tso c = canonical_cycle Tso message_passing_fences (2 ∷ 0 ∷ []) (0 ∷ 2 ∷ 3 ∷ 5 ∷ []) refl

pub returns-clause-weak : goal.returns-clause-weak
returns-clause-weak c = canonical_cycle Weak message_passing_fences (2 ∷ 0 ∷ []) (0 ∷ 1 ∷ 2 ∷ 3 ∷ 4 ∷ 5 ∷ []) refl

pub returns-clause-pso : goal.returns-clause-pso
returns-clause-pso c = canonical_cycle Pso message_passing_fences (2 ∷ 0 ∷ []) (0 ∷ 1 ∷ 2 ∷ 3 ∷ 5 ∷ []) refl
