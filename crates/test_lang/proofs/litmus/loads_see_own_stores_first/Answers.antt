use Rattle.std.proofs.Common.{◌∷◌, [], refl}
use Rattle.test_lang.specs.declared.op.MemModel.TheVariants.{Sc, Tso, Pso, Weak}
use Rattle.test_lang.specs.Litmus.{forwarding}
use Rattle.test_lang.proofs.Examples.{canonical_cycle, least_order}
use Rattle.test_lang.proofs.litmus.loads_see_own_stores_first.Goals as goal

pub returns-clause-sc : goal.returns-clause-sc
returns-clause-sc c = canonical_cycle Sc forwarding (1 ∷ 0 ∷ 2 ∷ 0 ∷ []) (0 ∷ 2 ∷ 3 ∷ 5 ∷ []) refl

pub returns-clause-tso : goal.returns-clause-tso
returns-clause-tso c = least_order Tso forwarding (1 ∷ 0 ∷ 2 ∷ 0 ∷ []) (1 ∷ 2 ∷ 3 ∷ 4 ∷ 5 ∷ 0 ∷ []) refl

pub returns-clause-pso : goal.returns-clause-pso
returns-clause-pso c = least_order Pso forwarding (1 ∷ 0 ∷ 2 ∷ 0 ∷ []) (1 ∷ 2 ∷ 3 ∷ 4 ∷ 5 ∷ 0 ∷ []) refl

pub returns-clause-weak : goal.returns-clause-weak
returns-clause-weak c = least_order Weak forwarding (1 ∷ 0 ∷ 2 ∷ 0 ∷ []) (1 ∷ 2 ∷ 3 ∷ 4 ∷ 5 ∷ 0 ∷ []) refl
