use Rattle.std.proofs.Common.{◌∷◌, [], refl}
use Rattle.test_lang.specs.declared.op.MemModel.TheVariants.{Sc, Tso, Pso, Weak}
use Rattle.test_lang.specs.Litmus.{store_buffering_store_fences}
use Rattle.test_lang.proofs.Examples.{canonical_cycle, least_order}
use Rattle.test_lang.proofs.litmus.store_buffering_with_store_fences.Goals as goal

pub returns-clause-sc : goal.returns-clause-sc
returns-clause-sc c = canonical_cycle Sc store_buffering_store_fences (0 ∷ 0 ∷ []) (0 ∷ 2 ∷ 3 ∷ 5 ∷ []) refl

pub returns-clause-tso : goal.returns-clause-tso
returns-clause-tso c = least_order Tso store_buffering_store_fences (0 ∷ 0 ∷ []) (2 ∷ 3 ∷ 4 ∷ 5 ∷ 0 ∷ 1 ∷ []) refl

pub returns-clause-pso : goal.returns-clause-pso
returns-clause-pso c = least_order Pso store_buffering_store_fences (0 ∷ 0 ∷ []) (2 ∷ 3 ∷ 4 ∷ 5 ∷ 0 ∷ 1 ∷ []) refl

pub returns-clause-weak : goal.returns-clause-weak
returns-clause-weak c = least_order Weak store_buffering_store_fences (0 ∷ 0 ∷ []) (2 ∷ 3 ∷ 4 ∷ 5 ∷ 0 ∷ 1 ∷ []) refl
