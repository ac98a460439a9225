use Rattle.std.proofs.Common.{◌≡◌, map}
use Rattle.orders.specs.Orders.{nodes_below}
use Rattle.sc_machine.specs.Threads.{opening_thread}
use Rattle.sc_machine.proofs.threads.opening_threads.Given as goal

abbrev pub invariant-loop-thread : goal.invariant-loop-thread
invariant-loop-thread l = l.threads.items ≡ map (opening_thread l.test) (nodes_below l.thread)
