use Rattle.std.proofs.Common.{◌≡◌}
use Rattle.full_sort.proofs.least_cycle_tests.graph_of.Given as goal

abbrev pub invariant-loop-node : goal.invariant-loop-node
invariant-loop-node l = l.graph.room ≡ 10000

abbrev pub invariant-loop-first : goal.invariant-loop-first
invariant-loop-first l = l.graph.room ≡ 10000

abbrev pub invariant-loop-node-2 : goal.invariant-loop-node-2
invariant-loop-node-2 l = l.graph.room ≡ 10000

abbrev pub invariant-loop-fan : goal.invariant-loop-fan
invariant-loop-fan l = l.graph.room ≡ 10000

abbrev pub invariant-loop-from : goal.invariant-loop-from
invariant-loop-from l = l.graph.room ≡ 10000
