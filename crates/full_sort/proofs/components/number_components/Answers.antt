use Rattle.std.proofs.Common.{◌≡◌, ◌+◌, ◌-◌, eqb, get_or, arith, subst}
use Rattle.std.proofs.lemmas.List.Elements.{Contains-get_or}
use Rattle.digraph.specs.Digraph.{HasEdge, in_degree}
use Rattle.orders.proofs.Below.{once-below}
use Rattle.orders.specs.Orders.{nodes_below}
use Rattle.full_sort.proofs.ComponentSteps.{all_numbered, IsNumberedFrom, number_fresh, numbered_already, numbered_on}
use Rattle.full_sort.proofs.Edges.{degrees_in-le}
use Rattle.full_sort.proofs.LeastCycles.{edges_inside}
use Rattle.full_sort.proofs.OpenSums.{where-all}
use Rattle.full_sort.proofs.components.number_components.Goals as goal

pub bounds-numbers-root : goal.bounds-numbers-root
bounds-numbers-root g c =
    let order = c.args.order.now in
    let few = c.loop-place.auto.place in
    let some = c.loop-place-test.true in
    let below = (c.requires.order.nodes.same (get_or order (c.loop-place.place - 1) 0)).1 (Contains-get_or order (c.loop-place.place - 1) 0 (omega (arith, few, some))) in
    let size = c.loop-place.auto.numbers in
    let nodes = c.requires.numbers in
    omega (arith, below, size, nodes)

pub number_sources-requires-clause-root : goal.number_sources-requires-clause-root
number_sources-requires-clause-root g c =
    let few = c.loop-place.auto.place in
    let some = c.loop-place-test.true in
    (c.requires.order.nodes.same (get_or c.args.order.now (c.loop-place.place - 1) 0)).1 (Contains-get_or c.args.order.now (c.loop-place.place - 1) 0 (omega (arith, few, some)))

pub number_sources-requires-clause-fresh : goal.number_sources-requires-clause-fresh
number_sources-requires-clause-fresh g c =
    let E = HasEdge c.args.graph.now.edges in
    let l = c.loop-place in
    let some = c.loop-place-test.true in
    let at : l.place ≡ l.place - 1 + 1 = omega (arith, some) in
    number_fresh E c.args.order.now l.numbers (l.place - 1) (subst (IsNumberedFrom E c.args.order.now l.numbers) at l.invariant.numbered) c.if-numbers-root-eq0.true

pub loop-place-preserved-then-numbers-root-eq0 : goal.loop-place-preserved-then-numbers-root-eq0
loop-place-preserved-then-numbers-root-eq0 g c =
    let es = c.args.graph.now.edges in
    let l = c.loop-place in
    let few = l.auto.place in
    let some = c.loop-place-test.true in
    let at : l.place ≡ l.place - 1 + 1 = omega (arith, some) in
    let before = l.invariant.later in
    let more = c.number_sources.ensures.later in
    let so_far = l.invariant.bound in
    let step = c.number_sources.ensures.bound in
    record {
      numbered = numbered_on (HasEdge es) c.args.order.now l.numbers (l.place - 1) (subst (IsNumberedFrom (HasEdge es) c.args.order.now l.numbers) at l.invariant.numbered) c.if-numbers-root-eq0.true c.args.graph.now.nodes
          (edges_inside es c.args.graph.now.nodes c.edges-edges.ensures.sound.ends) c.requires.order (omega (arith, few, some)) c.number_sources.new.numbers c.number_sources.ensures.numbered;
      bound = omega (arith, so_far, step);
      later = omega (arith, before, more);
    }

pub loop-place-preserved : goal.loop-place-preserved
loop-place-preserved g c =
    let E = HasEdge c.args.graph.now.edges in
    let l = c.loop-place in
    let some = c.loop-place-test.true in
    let at : l.place ≡ l.place - 1 + 1 = omega (arith, some) in
    record {
      numbered = numbered_already E c.args.order.now l.numbers (l.place - 1) c.if-numbers-root-eq0.false (subst (IsNumberedFrom E c.args.order.now l.numbers) at l.invariant.numbered);
      bound = l.invariant.bound;
      later = l.invariant.later;
    }

pub returns-clause-bound : goal.returns-clause-bound
returns-clause-bound g c =
    let es = c.args.graph.now.edges in
    let nodes = c.args.graph.now.nodes in
    let all = where-all (λ t. eqb (get_or c.args.numbers.now t 0) 0) (in_degree es) nodes in
    let few = degrees_in-le es (nodes_below nodes) (once-below nodes) in
    let so_far = c.loop-place.invariant.bound in
    omega (arith, all, few, so_far)

pub returns-clause-numbered : goal.returns-clause-numbered
returns-clause-numbered g c =
    let E = HasEdge c.args.graph.now.edges in
    let l = c.loop-place in
    let end = c.loop-place-test.false in
    all_numbered E c.args.graph.now.nodes c.args.order.now l.numbers c.requires.order (subst (IsNumberedFrom E c.args.order.now l.numbers) (omega (arith, end)) l.invariant.numbered)
