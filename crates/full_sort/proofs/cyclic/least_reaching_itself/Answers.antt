use Rattle.std.proofs.Common.{ℕ, suc, ◌≤◌, ◌+◌, List, arith, subst, inl, inr, add-one}
use Rattle.std.proofs.lemmas.Bool.{cases_eq}
use Rattle.std.proofs.lemmas.List.Sums.{sum_by_push}
use Rattle.digraph.specs.Digraph.{HasEdge, edges_out, out_degree}
use Rattle.orders.proofs.Below.{once-below}
use Rattle.orders.specs.Orders.{nodes_below}
use Rattle.orders.specs.Paths.{Reach}
use Rattle.full_sort.proofs.ComponentLaws.{edge_of_reach, reach_of_edge}
use Rattle.full_sort.proofs.Edges.{degrees-le}
use Rattle.full_sort.proofs.LeastCycles.{edges_inside}
use Rattle.full_sort.proofs.cyclic.least_reaching_itself.Goals as goal

one_node_more : (es : List (ℕ × ℕ)) (old now new node : ℕ) → now ≤ old + edges_out es (nodes_below node) → new ≤ now + out_degree es node → new ≤ old + edges_out es (nodes_below (node + 1))
one_node_more es old now new node before step =
    let parts = sum_by_push (out_degree es) (nodes_below node) node in
    rw (add-one) (omega (arith, parts, before, step))

pub returns-then-leads_within-clause-bound : goal.returns-then-leads_within-clause-bound
returns-then-leads_within-clause-bound g c =
    let es = c.args.graph.now.edges in
    let parts = sum_by_push (out_degree es) (nodes_below c.loop-node.node) c.loop-node.node in
    let few = degrees-le es (nodes_below (suc c.loop-node.node)) (once-below (suc c.loop-node.node)) in
    let so_far = c.loop-node.invariant.bound in
    let step = c.leads_within.ensures.bound in
    omega (arith, parts, few, so_far, step)

pub returns-clause-bound : goal.returns-clause-bound
returns-clause-bound g c =
    let few = degrees-le c.args.graph.now.edges (nodes_below c.loop-node.node) (once-below c.loop-node.node) in
    let so_far = c.loop-node.invariant.bound in
    omega (arith, few, so_far)

pub returns-then-leads_within-clause-some : goal.returns-then-leads_within-clause-some
returns-then-leads_within-clause-some g c =
    let es = c.args.graph.now.edges in
    let nodes = c.args.graph.now.nodes in
    reach_of_edge (HasEdge es) nodes c.args.numbers.now (edges_inside es nodes c.nodes-node-end.ensures.sound.ends) c.requires.components c.loop-node.node (c.leads_within.ensures.within.0 c.if-leads_within.true)

pub loop-node-preserved : goal.loop-node-preserved
loop-node-preserved g c =
    let before = c.loop-node.invariant.later in
    let more = c.leads_within.ensures.later in
    let so_far = c.loop-node.invariant.bound in
    let step = c.leads_within.ensures.bound in
    record {
      none = λ t lt path. elim (cases_eq t c.loop-node.node) [
        | inl same ↦
            let es = c.args.graph.now.edges in
            let nodes = c.args.graph.now.nodes in
            let here = subst (λ (x : ℕ). Reach (HasEdge es) x x) same path in
            let led = c.leads_within.ensures.within.1 (edge_of_reach (HasEdge es) nodes c.args.numbers.now (edges_inside es nodes c.nodes-node-end.ensures.sound.ends) c.requires.components c.loop-node.node here) in
            let not_so = c.if-leads_within.false in absurd cc
        | inr other ↦ c.loop-node.invariant.none t (omega (arith, lt, other)) path
      ];
      bound = one_node_more c.args.graph.now.edges c.args.steps.now c.loop-node.steps c.leads_within.new.steps c.loop-node.node so_far step;
      later = omega (arith, before, more);
    }

pub returns-clause-none : goal.returns-clause-none
returns-clause-none g c = λ t lt path.
    let end = c.loop-node-test.false in
    let count = c.nodes-node-end.ensures.count in
    c.loop-node.invariant.none t (omega (arith, lt, end, count)) path
