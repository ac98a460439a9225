use Rattle.std.proofs.Common.{◌∷◌, [], refl}
use Rattle.test_lang.specs.declared.op.MemModel.TheVariants.{Sc}
use Rattle.test_lang.specs.Litmus.{two_writers}
use Rattle.test_lang.proofs.Examples.{least_order}
use Rattle.test_lang.proofs.litmus.stores_of_two_threads_have_no_edge.Goals as goal

pub returns-clause-first : goal.returns-clause-first
returns-clause-first c = least_order Sc two_writers (1 ∷ []) (0 ∷ 1 ∷ 2 ∷ []) refl

pub returns-clause-second : goal.returns-clause-second
returns-clause-second c = least_order Sc two_writers (2 ∷ []) (0 ∷ 1 ∷ 2 ∷ []) refl
