use Rattle.std.proofs.Common.{◌≡◌, ◌+◌, length}
use Rattle.full_sort.proofs.tests.falling.Given as goal

abbrev pub invariant-loop-node : goal.invariant-loop-node
invariant-loop-node l = record {
  nodes : l.graph.nodes ≡ l.nodes;
  room : l.graph.room ≡ l.nodes;
  count : length l.graph.edges + 1 ≡ l.node;
}
