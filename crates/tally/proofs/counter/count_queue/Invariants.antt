use Rattle.std.proofs.Common.{◌≡◌, length}
use Rattle.tally.specs.Counting.{CanCount, all_rows, with_rows}
use Rattle.tally.proofs.counter.count_queue.Given as goal

abbrev pub invariant-loop-row : goal.invariant-loop-row
invariant-loop-row l = record {
  can : CanCount l.tally (all_rows l.queue.rows);
  width : l.queue.width ≡ l.fn.queue.width;
  same : with_rows l.tally (all_rows l.queue.rows) ≡ with_rows l.fn.tally (all_rows l.fn.queue.rows);
}

abbrev pub decreases-loop-row : goal.decreases-loop-row
decreases-loop-row l = length l.queue.rows
