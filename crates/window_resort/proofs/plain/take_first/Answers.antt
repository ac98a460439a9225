use Rattle.std.proofs.Common.{◌≢◌, ℕ, ◌<◌, List, All, AllPairs, Vec, Global, ap, refl, sym, subst, ◌∙◌}
use Rattle.std.specs.Prelude.{Option, Some, IfSome}
use Rattle.orders.specs.Orders.{HasNoOrder, IsLeastOrder}
use Rattle.orders.proofs.Below.{all-below, once-below}
use Rattle.test_lang.specs.Edges.{Edge}
use Rattle.test_lang.specs.Program.{op_count}
use Rattle.window_resort.specs.Walks.TakesRun.{sorted, unsorted}
use Rattle.window_resort.proofs.plain.take_first.Goals as goal

pub least_order-requires-clause-below : goal.least_order-requires-clause-below
least_order-requires-clause-below c =
    subst (λ (nodes : List ℕ). All (λ n. n < op_count c.args.graph.now.test.now) nodes) (sym (c.deref.ensures.value ∙ c.in_ok-nodes.ensures)) (all-below (op_count c.args.graph.now.test.now))

pub least_order-requires-clause-once : goal.least_order-requires-clause-once
least_order-requires-clause-once c =
    subst (AllPairs (λ (a b : ℕ). a ≢ b)) (sym (c.deref.ensures.value ∙ c.in_ok-nodes.ensures)) (once-below (op_count c.args.graph.now.test.now))

pub returns-in_default : goal.returns-in_default
returns-in_default c =
    unsorted refl (subst (HasNoOrder (Edge c.args.graph.now.model c.args.graph.now.test.now c.args.graph.now.run.now)) (c.deref.ensures.value ∙ c.in_ok-nodes.ensures) (c.in_ok-order.ensures.none c.in_default.is)) refl refl

pub returns : goal.returns
returns c =
    let E : ℕ → ℕ → Type 0 = Edge c.args.graph.now.model c.args.graph.now.test.now c.args.graph.now.run.now in
    let least = subst (λ (nodes : List ℕ). IsLeastOrder E nodes c.in-Some.order.items) (c.deref.ensures.value ∙ c.in_ok-nodes.ensures) (subst (λ (f : Option (Vec ℕ Global)). IfSome f (λ (order : Vec ℕ Global). IsLeastOrder E c.deref.result.now order.items)) c.in-Some.is c.in_ok-order.ensures.least) in
    sorted c.in-Some.order.items refl least refl (ap (λ (run : List ℕ). Some (record { run = run; order = c.in-Some.order.items })) (c.in_ok-run.ensures.items_if_clones_equal (λ x y h. h)))
