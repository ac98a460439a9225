use Rattle.std.proofs.Common.{◌≡◌, ◌++◌}
use Rattle.std.specs.List.{filter_map}
use Rattle.orders.specs.Orders.{nodes_below}
use Rattle.graph_model.specs.StoreTables.{first_store_to}
use Rattle.graph_model.proofs.first_stores.push_word.Given as goal

abbrev pub invariant-loop-thread : goal.invariant-loop-thread
invariant-loop-thread l = l.stores.items ≡ l.fn.stores.items ++ filter_map (first_store_to l.test l.word) (nodes_below l.thread)
