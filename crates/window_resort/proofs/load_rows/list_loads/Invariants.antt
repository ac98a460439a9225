use Rattle.std.proofs.Common.{◌≡◌, ◌≤◌, ◌<◌, ℕ}
use Rattle.window_resort.specs.Changes.{edges_at_rank}
use Rattle.window_resort.specs.Tables.{HasRoom, row_at}
use Rattle.window_resort.proofs.load_rows.list_loads.Given as goal

abbrev pub invariant-loop-rank : goal.invariant-loop-rank
invariant-loop-rank g l = record {
  room : HasRoom l.fixed.test l.rows;
  listed : (rank : ℕ) → rank < l.rank → row_at l.rows rank ≡ edges_at_rank l.fixed.test l.run rank;
  later : l.initial.steps ≤ l.steps;
}
