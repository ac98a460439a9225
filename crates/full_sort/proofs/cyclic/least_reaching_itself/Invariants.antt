use Rattle.std.proofs.Common.{ℕ, ◌+◌, ◌<◌, ◌≤◌}
use Rattle.digraph.specs.Digraph.{HasEdge, edges_out}
use Rattle.orders.specs.Orders.{nodes_below}
use Rattle.orders.specs.Paths.{Reach}
use Rattle.full_sort.proofs.cyclic.least_reaching_itself.Given as goal

abbrev pub invariant-loop-node : goal.invariant-loop-node
invariant-loop-node g l = record {
  none : (t : ℕ) → t < l.node → Reach (HasEdge l.graph.edges) t t → ⊥;
  bound : l.steps ≤ l.fn.steps + edges_out l.graph.edges (nodes_below l.node);
  later : l.fn.steps ≤ l.steps;
}
