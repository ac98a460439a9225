use Rattle.std.proofs.Common.{◌≡◌, ◌+◌, drop}
use Rattle.std.specs.Prelude.{sum_by}
use Rattle.digraph.specs.Digraph.{out_degree}
use Rattle.full_sort.specs.Waiting.{marked_of, IsWaiting}
use Rattle.full_sort.proofs.window.clean_up.Given as goal

abbrev pub invariant-loop-node : goal.invariant-loop-node
invariant-loop-node g l = record {
  waits : IsWaiting l.graph.edges l.graph.nodes (drop l.node-index l.window) l.waiting l.marks;
  ticked : l.steps + sum_by (out_degree l.graph.edges) (marked_of l.marks (drop l.node-index l.window)) ≡ l.fn.steps + sum_by (out_degree l.graph.edges) (marked_of l.fn.marks l.window);
}
