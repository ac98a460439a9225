use Rattle.std.proofs.Common.{ℕ, ◌<◌, List, ◌∷◌, [], length, take, get_or, Contains, ap, arith, sym, subst, ◌∙◌, length-append}
use Rattle.orders.specs.Choices.{IsNext, IsReady}
use Rattle.test_lang.specs.Edges.{Edge}
use Rattle.window_resort.proofs.Missing.{least_of_all, next_pushed, stuck_early}
use Rattle.window_resort.proofs.plain.least_order.Goals as goal

pub returns-in-None-clause-none : goal.returns-in-None-clause-none
returns-in-None-clause-none c = λ is.
    let below = c.loop-test.true in
    let until = c.loop.auto.counter-end in
    let long = c.loop.invariant.long in
    stuck_early (Edge c.args.graph.now.model c.args.graph.now.test.now c.args.graph.now.run.now) c.args.nodes.now c.loop.order.items c.loop.invariant.next c.requires.once (omega (arith, below, until, long))
    (subst (λ (placed : List ℕ). (z : ℕ) → Contains c.args.nodes.now z → (Contains placed z → ⊥) → IsReady (Edge c.args.graph.now.model c.args.graph.now.test.now c.args.graph.now.run.now) c.args.nodes.now placed z → ⊥) c.deref.ensures.value (c.next_node.ensures.none c.in-None.is))

pub loop-preserved : goal.loop-preserved
loop-preserved c =
    let E : ℕ → ℕ → Type 0 = Edge c.args.graph.now.model c.args.graph.now.test.now c.args.graph.now.run.now in
    let nodes = c.args.nodes.now in
    let more = c.in_ok-push-in-Some.ensures.items in
    let long = c.loop.invariant.long in
    let longer = ap (length {A = ℕ}) more ∙ length-append c.loop.order.items (c.in-Some.node ∷ []) in
    record {
      next = subst (λ (order : List ℕ). (i : ℕ) → i < length order → IsNext E nodes (take i order) (get_or order i 0)) (sym more)
          (next_pushed E nodes c.loop.order.items c.loop.invariant.next c.in-Some.node (subst (λ (placed : List ℕ). IsNext E nodes placed c.in-Some.node) c.deref.ensures.value c.in-Some.ensures.next));
      long = omega (arith, longer, long);
    }

pub returns-clause-least : goal.returns-clause-least
returns-clause-least c =
    let past = c.loop-test.false in
    let until = c.loop.auto.counter-end in
    let long = c.loop.invariant.long in
    least_of_all (Edge c.args.graph.now.model c.args.graph.now.test.now c.args.graph.now.run.now) c.args.nodes.now c.loop.order.items c.loop.invariant.next (omega (arith, past, until, long))
