use Rattle.std.proofs.Common.{◌∙◌, true, false, None, ap, sym}
use Rattle.std.specs.Prelude.{filter}
use Rattle.std.specs.List.{last_or}
use Rattle.std.proofs.lemmas.List.{append-nil}
use Rattle.orders.specs.Orders.{nodes_below}
use Rattle.test_lang.specs.Runs.{own_earlier}
use Rattle.test_lang.proofs.BaseStores.{last-push}
use Rattle.weak_machine.proofs.Waits.{filter-next}
use Rattle.weak_machine.proofs.base_stores.base_store.Goals as goal
use Rattle.weak_machine.proofs.base_stores.base_store.Goals.{then-is_own_earlier, else-is_own_earlier}

pub loop-earlier-preserved : goal.loop-earlier-preserved
loop-earlier-preserved c =
    let test = own_earlier c.args.test.now c.args.node in
    let n = c.loop-earlier.earlier in
    elim c.if-is_own_earlier.branch [
      | then-is_own_earlier w ↦ w.last-is ∙ sym (ap (last_or None) (filter-next test n true (sym c.is_own_earlier.ensures ∙ w.if-is_own_earlier.true)) ∙ last-push (filter test (nodes_below n)) n)
      | else-is_own_earlier w ↦ w.last-is ∙ c.loop-earlier.invariant ∙ sym (ap (last_or None) (filter-next test n false (sym c.is_own_earlier.ensures ∙ w.if-is_own_earlier.false) ∙ append-nil (filter test (nodes_below n))))
    ]
