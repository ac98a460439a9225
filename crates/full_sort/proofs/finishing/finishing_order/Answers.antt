use Rattle.std.proofs.Common.{◌≡◌, ◌∙◌, ℕ, length, take, drop, arith, subst, sym}
use Rattle.digraph.specs.Digraph.{HasEdge}
use Rattle.full_sort.specs.Finishing.{IsFinishingOrder}
use Rattle.full_sort.proofs.SearchArrays.{at_begun, at_end}
use Rattle.full_sort.proofs.SearchTicks.{front_edges}
use Rattle.full_sort.proofs.finishing.finishing_order.Goals as goal

pub loop-root-init : goal.loop-root-init
loop-root-init g c = record {
  search = at_begun c.args.graph.now.edges c.args.marks.now c.args.seen.now c.args.order.now c.requires.clear;
  found = λ t lt. absurd (omega (arith, lt));
  bound = omega arith;
  later = omega arith;
}

pub returns-clause-bound : goal.returns-clause-bound
returns-clause-bound g c =
    let l = c.loop-root in
    let few = front_edges c.args.graph.now.edges (take l.done l.order) (drop (length l.order) l.order) l.invariant.search.search.found.once in
    let so_far = l.invariant.bound in
    omega (arith, few, so_far)

pub returns-clause-order : goal.returns-clause-order
returns-clause-order g c =
    let l = c.loop-root in
    let end = c.loop-root-test.false in
    let count = c.nodes-root-end.ensures.count in
    let size : length l.order ≡ c.args.graph.now.nodes = l.auto.order ∙ c.requires.order in
    let marks : length l.marks ≡ c.args.graph.now.nodes = l.auto.marks ∙ c.requires.marks in
    subst (λ (n : ℕ). IsFinishingOrder (HasEdge c.args.graph.now.edges) n l.order) size
    (at_end c.args.graph.now.edges l.marks l.seen l.order l.done (marks ∙ sym size) l.invariant.search (λ t lt. l.invariant.found t (omega (arith, lt, size, end, count))))
