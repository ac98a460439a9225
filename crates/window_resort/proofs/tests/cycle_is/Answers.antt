-- In store buffering two loads that both give 0 leave no order.
use Rattle.std.proofs.Common.{[], ◌∷◌, refl, sym, subst}
use Rattle.test_lang.specs.declared.op.MemModel.{MemModel}
use Rattle.test_lang.specs.declared.op.MemModel.TheVariants.{Sc}
use Rattle.test_lang.specs.Edges.{HasNoRunOrder}
use Rattle.test_lang.specs.Litmus.{store_buffering}
use Rattle.test_lang.specs.Program.{Program}
use Rattle.test_lang.proofs.Examples.{no_order}
use Rattle.window_resort.proofs.tests.cycle_is.Goals as goal

pub cycle_into-requires-clause-none : goal.cycle_into-requires-clause-none
cycle_into-requires-clause-none c =
    subst (λ (m : MemModel). HasNoRunOrder m c.args.checker.now.fixed.test (0 ∷ 0 ∷ [])) (sym c.requires.model)
    (subst (λ (p : Program). HasNoRunOrder Sc p (0 ∷ 0 ∷ [])) (sym c.requires.test) (no_order Sc store_buffering (0 ∷ 0 ∷ []) (0 ∷ 1 ∷ 2 ∷ 3 ∷ []) refl))
