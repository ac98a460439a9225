use Rattle.std.proofs.Common.{◌≡◌}
use Rattle.digraph.proofs.tests.edges_of.Given as goal

abbrev pub invariant-loop-from : goal.invariant-loop-from
invariant-loop-from l = l.edges.room ≡ l.room

abbrev pub invariant-loop-from-2 : goal.invariant-loop-from-2
invariant-loop-from-2 l = l.edges.room ≡ l.room
