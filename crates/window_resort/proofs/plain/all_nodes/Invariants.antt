use Rattle.std.proofs.Common.{◌≡◌}
use Rattle.orders.specs.Orders.{nodes_below}
use Rattle.window_resort.proofs.plain.all_nodes.Given as goal

abbrev pub invariant-loop-node : goal.invariant-loop-node
invariant-loop-node l = l.nodes.items ≡ nodes_below l.node
