use Rattle.std.proofs.Common.{◌≡◌, map, take}
use Rattle.orders.specs.Orders.{nodes_below}
use Rattle.test_lang.specs.Program.{first_node}
use Rattle.tso_machine.proofs.playing.put_first_nodes.Given as goal

abbrev pub invariant-loop-thread : goal.invariant-loop-thread
invariant-loop-thread l = take l.thread l.nodes ≡ map (first_node l.test) (nodes_below l.thread)
