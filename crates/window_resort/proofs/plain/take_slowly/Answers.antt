use Rattle.std.proofs.Common.{ℕ, ◌<◌, List, All, length, ap, arith, refl, sym, subst, ◌∙◌}
use Rattle.std.specs.Prelude.{Option, None, Some, IfSome}
use Rattle.test_lang.specs.Edges.{Edge, IsRunOrder}
use Rattle.test_lang.specs.Program.{op_count}
use Rattle.window_resort.specs.Walks.{Base}
use Rattle.window_resort.specs.Walks.TakesRun.{kept}
use Rattle.window_resort.specs.Windows.{IsWindow}
use Rattle.window_resort.proofs.PlainWalks.{all_nodes_below, at_most_all, left_if_ok, window_rises}
use Rattle.window_resort.proofs.RunWindows.{kept_order}
use Rattle.window_resort.proofs.plain.take_slowly.Goals as goal

pub window_of-requires-clause-below : goal.window_of-requires-clause-below
window_of-requires-clause-below c =
    let b = c.in-Some.base in
    let has = subst (λ (o : Option Base). IfSome o (λ (b : Base). IsRunOrder c.args.model c.args.test.now b.run b.order)) c.in-Some.is c.requires.order in
    subst (All (λ n. n < op_count c.args.test.now)) (sym (c.deref.ensures.value ∙ ap (λ (x : Base). x.order) c.base.view_is)) (all_nodes_below c.args.model c.args.test.now b.run b.order has)

pub window_of-requires-clause-few : goal.window_of-requires-clause-few
window_of-requires-clause-few c =
    let b = c.in-Some.base in
    let has = subst (λ (o : Option Base). IfSome o (λ (b : Base). IsRunOrder c.args.model c.args.test.now b.run b.order)) c.in-Some.is c.requires.order in
    let same = ap (length {A = ℕ}) (c.deref.ensures.value ∙ ap (λ (x : Base). x.order) c.base.view_is) in
    let most = at_most_all c.args.model c.args.test.now b.run b.order has in
    let count = c.ops-nodes.ensures.count in
    let few = c.ops-nodes.ensures.few in
    omega (arith, same, most, count, few)

pub returns-in-Some-window_of-clause-order : goal.returns-in-Some-window_of-clause-order
returns-in-Some-window_of-clause-order c =
    let has = subst (λ (o : Option Base). IfSome o (λ (b : Base). IsRunOrder c.args.model c.args.test.now b.run b.order)) c.in-Some.is c.requires.order in
    left_if_ok c.args.model c.args.test.now (Some c.in-Some.base) c.args.run.now c.take_in_window.result has c.take_in_window.ensures

pub take_in_window-requires-clause-rising : goal.take_in_window-requires-clause-rising
take_in_window-requires-clause-rising c =
    let b = c.in-Some.base in
    let has = subst (λ (o : Option Base). IfSome o (λ (b : Base). IsRunOrder c.args.model c.args.test.now b.run b.order)) c.in-Some.is c.requires.order in
    let same = c.deref.ensures.value ∙ ap (λ (x : Base). x.order) c.base.view_is in
    window_rises c.args.model c.args.test.now b.run b.order has c.args.run.now c.in-Some-window_of.window
    (subst (λ (order : List ℕ). IsWindow (Edge c.args.model c.args.test.now c.args.run.now) order (Some c.in-Some-window_of.window)) same c.in-Some-window_of.ensures)

pub take_in_window-requires-clause-few : goal.take_in_window-requires-clause-few
take_in_window-requires-clause-few c =
    let b = c.in-Some.base in
    let has = subst (λ (o : Option Base). IfSome o (λ (b : Base). IsRunOrder c.args.model c.args.test.now b.run b.order)) c.in-Some.is c.requires.order in
    let most = at_most_all c.args.model c.args.test.now b.run b.order has in
    let count = c.ops-nodes.ensures.count in
    let few = c.ops-nodes.ensures.few in
    omega (arith, most, count, few)

pub returns-in_ok-run-in-None-clause-taken : goal.returns-in_ok-run-in-None-clause-taken
returns-in_ok-run-in-None-clause-taken c =
    let b = c.in-Some.base in
    let same = c.deref.ensures.value ∙ ap (λ (x : Base). x.order) c.base.view_is in
    let none = subst (λ (order : List ℕ). IsWindow (Edge c.args.model c.args.test.now c.args.run.now) order None) same c.in-None.ensures in
    kept b c.in-Some.is none refl
    (ap (λ (run : List ℕ). Some (record { run = run; order = c.base.inside.order.items })) (c.in_ok-run-in-None.ensures.items_if_clones_equal (λ x y h. h))
    ∙ ap (λ (order : List ℕ). Some (record { run = c.args.run.now; order = order })) (ap (λ (x : Base). x.order) c.base.view_is))

pub returns-in_ok-run-in-None-clause-order : goal.returns-in_ok-run-in-None-clause-order
returns-in_ok-run-in-None-clause-order c =
    let b = c.in-Some.base in
    let has = subst (λ (o : Option Base). IfSome o (λ (b : Base). IsRunOrder c.args.model c.args.test.now b.run b.order)) c.in-Some.is c.requires.order in
    let same = c.deref.ensures.value ∙ ap (λ (x : Base). x.order) c.base.view_is in
    let none = subst (λ (order : List ℕ). IsWindow (Edge c.args.model c.args.test.now c.args.run.now) order None) same c.in-None.ensures in
    let order = kept_order c.args.model c.args.test.now b.run c.args.run.now b.order has none in
    subst (λ (list : List ℕ). IsRunOrder c.args.model c.args.test.now c.in_ok-run-in-None.run'.items list) (sym (ap (λ (x : Base). x.order) c.base.view_is))
    (subst (λ (run : List ℕ). IsRunOrder c.args.model c.args.test.now run b.order) (sym (c.in_ok-run-in-None.ensures.items_if_clones_equal (λ x y h. h))) order)
