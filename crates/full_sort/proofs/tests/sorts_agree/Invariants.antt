use Rattle.std.proofs.Common.{◌≡◌}
use Rattle.full_sort.proofs.tests.sorts_agree.Given as goal

abbrev pub invariant-loop-sort : goal.invariant-loop-sort
invariant-loop-sort l = record {
  nodes : l.graph.nodes ≡ l.nodes;
  room : l.graph.room ≡ 3;
  scratch : l.scratch ≡ l.nodes;
}
