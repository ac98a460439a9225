use Rattle.std.proofs.Common.{◌∷◌, [], refl}
use Rattle.test_lang.specs.declared.op.MemModel.TheVariants.{Sc}
use Rattle.test_lang.specs.Litmus.{store_buffering}
use Rattle.test_lang.proofs.Examples.{canonical_cycle, no_order}
use Rattle.test_lang.proofs.litmus.store_buffering_both_zero.Goals as goal

pub returns-clause-none : goal.returns-clause-none
returns-clause-none c = no_order Sc store_buffering (0 ∷ 0 ∷ []) (0 ∷ 1 ∷ 2 ∷ 3 ∷ []) refl

pub returns-clause-cycle : goal.returns-clause-cycle
returns-clause-cycle c = canonical_cycle Sc store_buffering (0 ∷ 0 ∷ []) (0 ∷ 1 ∷ 2 ∷ 3 ∷ []) refl
