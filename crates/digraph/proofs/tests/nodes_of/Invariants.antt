use Rattle.std.proofs.Common.{◌≡◌}
use Rattle.digraph.proofs.tests.nodes_of.Given as goal

abbrev pub invariant-loop-node : goal.invariant-loop-node
invariant-loop-node l = l.nodes.room ≡ l.room

abbrev pub invariant-loop-node-2 : goal.invariant-loop-node-2
invariant-loop-node-2 l = l.nodes.room ≡ l.room
