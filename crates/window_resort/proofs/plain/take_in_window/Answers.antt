use Rattle.std.proofs.Common.{◌≡◌, ◌≢◌, ℕ, ◌<◌, List, All, AllPairs, Vec, Global, ap, refl, sym, subst, ◌∙◌}
use Rattle.std.specs.Prelude.{Option, Some, IfSome}
use Rattle.orders.specs.Orders.{HasNoOrder, IsLeastOrder}
use Rattle.test_lang.specs.Edges.{Edge}
use Rattle.test_lang.specs.Program.{op_count}
use Rattle.window_resort.specs.declared.verdicts.Verdict.TheVariants.{Cycle, Resorted}
use Rattle.window_resort.specs.Walks.{Base}
use Rattle.window_resort.specs.Walks.TakesRun.{resorted, unresorted}
use Rattle.window_resort.specs.Windows.{window_nodes, with_window}
use Rattle.window_resort.proofs.PlainWalks.{window_nodes_below}
use Rattle.window_resort.proofs.RunWindows.{nodes_once}
use Rattle.window_resort.proofs.plain.take_in_window.Goals as goal

pub least_order-requires-clause-below : goal.least_order-requires-clause-below
least_order-requires-clause-below c =
    let g = c.args.graph.now in
    let b = c.args.base in
    let same : c.deref.result.now ≡ b.order = c.deref.ensures.value ∙ ap (λ (x : Base). x.order) c.base.view_is in
    subst (λ (order : List ℕ). All (λ n. n < op_count g.test.now) (window_nodes order c.args.window)) (sym same)
    (window_nodes_below g.model g.test.now b.run b.order c.requires.order g.run.now c.args.window c.requires.window)

pub least_order-requires-clause-once : goal.least_order-requires-clause-once
least_order-requires-clause-once c =
    let g = c.args.graph.now in
    let b = c.args.base in
    let same : c.deref.result.now ≡ b.order = c.deref.ensures.value ∙ ap (λ (x : Base). x.order) c.base.view_is in
    subst (λ (order : List ℕ). AllPairs (λ (x y : ℕ). x ≢ y) (window_nodes order c.args.window)) (sym same) (nodes_once g.model g.test.now b.run g.run.now b.order c.requires.order c.args.window c.requires.window)

pub returns-in_default : goal.returns-in_default
returns-in_default c =
    let g = c.args.graph.now in
    let b = c.args.base in
    let same : c.deref.result.now ≡ b.order = c.deref.ensures.value ∙ ap (λ (x : Base). x.order) c.base.view_is in
    let none = subst (λ (order : List ℕ). HasNoOrder (Edge g.model g.test.now g.run.now) (window_nodes order c.args.window)) same (c.in_ok-sorted.ensures.none c.in_default.is) in
    unresorted b c.args.window refl c.requires.window none (ap (λ (n : ℕ). Cycle (Some n)) c.nodes-nodes.ensures) refl

pub returns : goal.returns
returns c =
    let g = c.args.graph.now in
    let b = c.args.base in
    let E : ℕ → ℕ → Type 0 = Edge g.model g.test.now g.run.now in
    let same : c.deref.result.now ≡ b.order = c.deref.ensures.value ∙ ap (λ (x : Base). x.order) c.base.view_is in
    let found = subst (λ (f : Option (Vec ℕ Global)). IfSome f (λ (sorted : Vec ℕ Global). IsLeastOrder E (window_nodes c.deref.result.now c.args.window) sorted.items)) c.in-Some.is c.in_ok-sorted.ensures.least in
    let least = subst (λ (order : List ℕ). IsLeastOrder E (window_nodes order c.args.window) c.in-Some.sorted.items) same found in
    let order : c.in_ok-order.order.items ≡ with_window b.order c.args.window c.in-Some.sorted.items =
    c.in_ok-order.ensures ∙ ap (λ (nodes : List ℕ). with_window c.deref-2.result.now c.args.window nodes) c.deref-3.ensures.value
    ∙ ap (λ (order : List ℕ). with_window order c.args.window c.in-Some.sorted.items) (c.deref-2.ensures.value ∙ ap (λ (x : Base). x.order) c.base.view_is) in
    resorted b c.args.window c.in-Some.sorted.items refl c.requires.window least (ap Resorted c.nodes-nodes.ensures)
    (ap (λ (run : List ℕ). Some (record { run = run; order = c.in_ok-order.order.items })) (c.in_ok-run.ensures.items_if_clones_equal (λ x y h. h))
    ∙ ap (λ (list : List ℕ). Some (record { run = g.run.now; order = list })) order)
