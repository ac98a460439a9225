use Rattle.std.proofs.Common.{◌≡◌, ◌≤◌, ◌<◌, ◌-◌, ℕ, None, length, slice_index_or}
use Rattle.test_lang.specs.Program.{op_count}
use Rattle.graph_model.specs.LoadEdges.{next_store}
use Rattle.graph_model.specs.NearestNodes.{Tells, first_passing}
use Rattle.graph_model.proofs.store_tables.next_stores.Given as goal

abbrev pub invariant-loop-node : goal.invariant-loop-node
invariant-loop-node l = record {
  within : l.node ≤ op_count l.test;
  room : length l.table.items ≡ op_count l.test;
  each : (n : ℕ) → l.node ≤ n → n < op_count l.test → slice_index_or l.table.items n None ≡ next_store l.test n;
  told : Tells (first_passing l.test (op_count l.test - l.node)) l.nearest;
  words : length l.nearest.loads.items ≡ l.test.words;
}
