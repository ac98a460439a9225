use Rattle.std.proofs.Common.{◌∷◌, [], refl}
use Rattle.test_lang.specs.declared.op.MemModel.TheVariants.{Sc}
use Rattle.test_lang.specs.Litmus.{empty_thread, no_operations}
use Rattle.test_lang.proofs.Examples.{least_order}
use Rattle.test_lang.proofs.litmus.empty_threads_have_no_node.Goals as goal

pub returns-clause-seen : goal.returns-clause-seen
returns-clause-seen c = least_order Sc empty_thread (1 ∷ []) (0 ∷ 1 ∷ []) refl

pub returns-clause-unseen : goal.returns-clause-unseen
returns-clause-unseen c = least_order Sc empty_thread (0 ∷ []) (1 ∷ 0 ∷ []) refl

pub returns-clause-order : goal.returns-clause-order
returns-clause-order c = least_order Sc no_operations [] [] refl
