use Rattle.std.proofs.Common.{◌∷◌, [], refl}
use Rattle.test_lang.specs.declared.op.MemModel.TheVariants.{Sc, Tso, Pso, Weak}
use Rattle.test_lang.specs.Litmus.{load_buffering_load_fences}
use Rattle.test_lang.proofs.Examples.{canonical_cycle, least_order}
use Rattle.test_lang.proofs.litmus.load_buffering_with_load_fences.Goals as goal

pub returns-clause-sc : goal.returns-clause-sc
returns-clause-sc c = canonical_cycle Sc load_buffering_load_fences (2 ∷ 1 ∷ []) (0 ∷ 2 ∷ 3 ∷ 5 ∷ []) refl

pub returns-clause-tso : goal.returns-clause-tso
returns-clause-tso c = canonical_cycle Tso load_buffering_load_fences (2 ∷ 1 ∷ []) (0 ∷ 2 ∷ 3 ∷ 5 ∷ []) refl

pub returns-clause-pso : goal.returns-clause-pso
returns-clause-pso c = canonical_cycle Pso load_buffering_load_fences (2 ∷ 1 ∷ []) (0 ∷ 2 ∷ 3 ∷ 5 ∷ []) refl

pub returns-clause-weak : goal.returns-clause-weak
returns-clause-weak c = least_order Weak load_buffering_load_fences (2 ∷ 1 ∷ []) (2 ∷ 3 ∷ 4 ∷ 5 ∷ 0 ∷ 1 ∷ []) refl
