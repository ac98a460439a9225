use Rattle.std.proofs.Common.{◌≡◌, map}
use Rattle.orders.specs.Orders.{nodes_below}
use Rattle.test_lang.specs.Runs.{base_store}
use Rattle.weak_machine.proofs.base_stores.base_stores.Given as goal

abbrev pub invariant-loop-node : goal.invariant-loop-node
invariant-loop-node l = l.bases.items ≡ map (base_store l.test) (nodes_below l.node)
