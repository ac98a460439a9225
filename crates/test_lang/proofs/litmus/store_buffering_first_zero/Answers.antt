use Rattle.std.proofs.Common.{◌∷◌, [], refl}
use Rattle.test_lang.specs.declared.op.MemModel.TheVariants.{Sc}
use Rattle.test_lang.specs.Litmus.{store_buffering}
use Rattle.test_lang.proofs.Examples.{least_order}
use Rattle.test_lang.proofs.litmus.store_buffering_first_zero.Goals as goal

pub returns-clause-order : goal.returns-clause-order
returns-clause-order c = least_order Sc store_buffering (0 ∷ 1 ∷ []) (0 ∷ 1 ∷ 2 ∷ 3 ∷ []) refl
