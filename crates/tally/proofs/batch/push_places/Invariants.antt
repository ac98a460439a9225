use Rattle.std.proofs.Common.{◌≡◌, ◌≤◌, take, All}
use Rattle.tally.specs.Rows.{FitsIn, rows_at, rows_in}
use Rattle.tally.proofs.batch.push_places.Given as goal

abbrev pub invariant-loop-index : goal.invariant-loop-index
invariant-loop-index l = record {
  rows : rows_at l.words l.width l.places.items ≡ take l.index (rows_in l.words l.width l.times);
  fits : All (FitsIn l.words l.width) l.places.items;
  some : All (λ place. 1 ≤ place.times) l.places.items;
}
