use Rattle.std.proofs.Common.{◌≡◌}
use Rattle.full_sort.proofs.small_graph_tests.Table.graph.Given as goal

abbrev pub invariant-loop-from : goal.invariant-loop-from
invariant-loop-from l = l.graph.room ≡ 64

abbrev pub invariant-loop-to : goal.invariant-loop-to
invariant-loop-to l = l.graph.room ≡ 64
