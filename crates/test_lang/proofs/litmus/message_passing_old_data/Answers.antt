use Rattle.std.proofs.Common.{◌∷◌, [], refl}
use Rattle.test_lang.specs.declared.op.MemModel.TheVariants.{Sc, Tso, Pso, Weak}
use Rattle.test_lang.specs.Litmus.{message_passing}
use Rattle.test_lang.proofs.Examples.{canonical_cycle, least_order}
use Rattle.test_lang.proofs.litmus.message_passing_old_data.Goals as goal

pub returns-clause-sc : goal.returns-clause-sc
returns-clause-sc c = canonical_cycle Sc message_passing (2 ∷ 0 ∷ []) (0 ∷ 1 ∷ 2 ∷ 3 ∷ []) refl

pub returns-clause-tso : goal.returns-clause-tso
returns-clause-tso c = canonical_cycle Tso message_passing (2 ∷ 0 ∷ []) (0 ∷ 1 ∷ 2 ∷ 3 ∷ []) refl

pub returns-clause-weak : goal.returns-clause-weak
returns-clause-weak c = least_order Weak message_passing (2 ∷ 0 ∷ []) (1 ∷ 2 ∷ 3 ∷ 0 ∷ []) refl

pub returns-clause-pso : goal.returns-clause-pso
returns-clause-pso c = least_order Pso message_passing (2 ∷ 0 ∷ []) (1 ∷ 2 ∷ 3 ∷ 0 ∷ []) refl
