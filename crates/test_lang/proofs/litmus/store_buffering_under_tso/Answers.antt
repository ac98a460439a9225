use Rattle.std.proofs.Common.{◌∷◌, [], refl}
use Rattle.test_lang.specs.declared.op.MemModel.TheVariants.{Tso}
use Rattle.test_lang.specs.Litmus.{store_buffering}
use Rattle.test_lang.proofs.Examples.{least_order}
use Rattle.test_lang.proofs.litmus.store_buffering_under_tso.Goals as goal

pub returns-clause-order : goal.returns-clause-order
returns-clause-order c = least_order Tso store_buffering (0 ∷ 0 ∷ []) (1 ∷ 2 ∷ 3 ∷ 0 ∷ []) refl
