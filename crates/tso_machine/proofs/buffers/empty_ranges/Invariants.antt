use Rattle.std.proofs.Common.{◌≡◌, map}
use Rattle.orders.specs.Orders.{nodes_below}
use Rattle.tso_machine.specs.Queues.{empty_range}
use Rattle.tso_machine.proofs.buffers.empty_ranges.Given as goal

abbrev pub invariant-loop-thread : goal.invariant-loop-thread
invariant-loop-thread l = l.ranges.items ≡ map (empty_range l.test) (nodes_below l.thread)
