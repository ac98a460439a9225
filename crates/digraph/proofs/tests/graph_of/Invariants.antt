use Rattle.std.proofs.Common.{◌≡◌}
use Rattle.digraph.proofs.tests.graph_of.Given as goal

abbrev pub invariant-loop-part : goal.invariant-loop-part
invariant-loop-part l = l.graph.room ≡ l.room

abbrev pub invariant-loop-from : goal.invariant-loop-from
invariant-loop-from l = l.graph.room ≡ l.room
