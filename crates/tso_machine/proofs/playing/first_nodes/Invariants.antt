use Rattle.std.proofs.Common.{◌≡◌, map}
use Rattle.orders.specs.Orders.{nodes_below}
use Rattle.test_lang.specs.Program.{first_node}
use Rattle.tso_machine.proofs.playing.first_nodes.Given as goal

abbrev pub invariant-loop-thread : goal.invariant-loop-thread
invariant-loop-thread l = l.nodes.items ≡ map (first_node l.test) (nodes_below l.thread)
