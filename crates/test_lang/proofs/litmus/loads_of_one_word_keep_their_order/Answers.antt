use Rattle.std.proofs.Common.{◌∷◌, [], refl}
use Rattle.test_lang.specs.declared.op.MemModel.TheVariants.{Sc, Tso, Pso, Weak}
use Rattle.test_lang.specs.Litmus.{two_stores_two_loads}
use Rattle.test_lang.proofs.Examples.{canonical_cycle, least_order}
use Rattle.test_lang.proofs.litmus.loads_of_one_word_keep_their_order.Goals as goal

pub returns-clause-sc : goal.returns-clause-sc
returns-clause-sc c = canonical_cycle Sc two_stores_two_loads (2 ∷ 1 ∷ []) (1 ∷ 2 ∷ 3 ∷ []) refl

pub returns-clause-tso : goal.returns-clause-tso
returns-clause-tso c = canonical_cycle Tso two_stores_two_loads (2 ∷ 1 ∷ []) (1 ∷ 2 ∷ 3 ∷ []) refl

pub returns-clause-weak : goal.returns-clause-weak
returns-clause-weak c = canonical_cycle Weak two_stores_two_loads (2 ∷ 1 ∷ []) (1 ∷ 2 ∷ 3 ∷ []) refl

pub returns-clause-right : goal.returns-clause-right
returns-clause-right c = least_order Weak two_stores_two_loads (1 ∷ 2 ∷ []) (0 ∷ 2 ∷ 1 ∷ 3 ∷ []) refl

pub returns-clause-pso : goal.returns-clause-pso
returns-clause-pso c = canonical_cycle Pso two_stores_two_loads (2 ∷ 1 ∷ []) (1 ∷ 2 ∷ 3 ∷ []) refl
