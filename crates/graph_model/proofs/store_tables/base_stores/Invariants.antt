use Rattle.std.proofs.Common.{◌≡◌, ◌<◌, ℕ, None, length, slice_index_or}
use Rattle.test_lang.specs.Program.{op_count}
use Rattle.test_lang.specs.Runs.{base_store}
use Rattle.graph_model.specs.NearestNodes.{Tells, last_node}
use Rattle.graph_model.proofs.store_tables.base_stores.Given as goal

abbrev pub invariant-loop-node : goal.invariant-loop-node
invariant-loop-node l = record {
  room : length l.table.items ≡ op_count l.test;
  each : (n : ℕ) → n < l.node → slice_index_or l.table.items n None ≡ base_store l.test n;
  told : Tells (last_node l.test l.node) l.nearest;
  words : length l.nearest.loads.items ≡ l.test.words;
}
