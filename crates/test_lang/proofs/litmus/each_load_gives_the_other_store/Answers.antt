use Rattle.std.proofs.Common.{◌∷◌, [], refl}
use Rattle.test_lang.specs.declared.op.MemModel.TheVariants.{Sc, Tso, Pso, Weak}
use Rattle.test_lang.specs.Litmus.{store_load_each}
use Rattle.test_lang.proofs.Examples.{canonical_cycle}
use Rattle.test_lang.proofs.litmus.each_load_gives_the_other_store.Goals as goal

pub returns-clause-sc : goal.returns-clause-sc
returns-clause-sc c = canonical_cycle Sc store_load_each (2 ∷ 1 ∷ []) (0 ∷ 2 ∷ []) refl

pub returns-clause-tso : goal.returns-clause-tso
returns-clause-tso c = canonical_cycle Tso store_load_each (2 ∷ 1 ∷ []) (0 ∷ 2 ∷ []) refl

pub returns-clause-pso : goal.returns-clause-pso
returns-clause-pso c = canonical_cycle Pso store_load_each (2 ∷ 1 ∷ []) (0 ∷ 2 ∷ []) refl

pub returns-clause-weak : goal.returns-clause-weak
returns-clause-weak c = canonical_cycle Weak store_load_each (2 ∷ 1 ∷ []) (0 ∷ 2 ∷ []) refl
