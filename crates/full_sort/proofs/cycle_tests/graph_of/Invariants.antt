use Rattle.std.proofs.Common.{◌≡◌}
use Rattle.full_sort.proofs.cycle_tests.graph_of.Given as goal

abbrev pub invariant-loop-from : goal.invariant-loop-from
invariant-loop-from l = l.graph.room ≡ 20
