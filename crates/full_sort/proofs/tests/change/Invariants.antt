use Rattle.std.proofs.Common.{◌≡◌}
use Rattle.full_sort.proofs.tests.change.Given as goal

abbrev pub invariant-loop-from : goal.invariant-loop-from
invariant-loop-from l = record {
  nodes : l.graph.nodes ≡ l.fn.graph.nodes;
  room : l.graph.room ≡ 3;
}
