use Rattle.std.proofs.Common.{◌≡◌, ◌≤◌, length, All}
use Rattle.graph_model.specs.LoadEdges.{load_edge_room}
use Rattle.window_resort.proofs.load_rows.empty_rows.Given as goal

abbrev pub invariant-loop : goal.invariant-loop
invariant-loop l = record {
  loads : length l.rows.items ≡ l.counter;
  each : All (λ row. load_edge_room l.fixed.test ≤ row.room) l.rows.items;
}
