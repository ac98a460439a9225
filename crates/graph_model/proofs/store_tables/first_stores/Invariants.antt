use Rattle.std.proofs.Common.{◌≡◌, ℕ, ◌+◌, ◌*◌, ◌<◌, None, length, slice_index_or}
use Rattle.std.specs.Prelude.{find}
use Rattle.orders.specs.Orders.{nodes_below}
use Rattle.graph_model.specs.StoreTables.{is_thread_store}
use Rattle.graph_model.proofs.store_tables.first_stores.Given as goal

abbrev pub invariant-loop-node : goal.invariant-loop-node
invariant-loop-node l = record {
  room : length l.table.items ≡ l.test.words * length l.test.threads;
  each : (word thread : ℕ) → word < l.test.words → thread < length l.test.threads
      → slice_index_or l.table.items (word * length l.test.threads + thread) None ≡ find (is_thread_store l.test word thread) (nodes_below l.node);
}
