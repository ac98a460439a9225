use Rattle.std.proofs.Common.{◌≡◌, ◌+◌, ◌≤◌, ◌++◌, length, vec_len, vec_capacity}
use Rattle.std.specs.Vec.Iter.{drain_items, DrainKeeps}
use Rattle.tally.specs.Histories.{entries}
use Rattle.turn_set.proofs.book.enter_all.Given as goal

abbrev pub invariant-loop-outcome : goal.invariant-loop-outcome
invariant-loop-outcome l = record {
  goes : goal.iterator-loop-outcome.can_next l.outcome-iterator;
  finite : goal.iterator-loop-outcome.is_finite l.outcome-iterator;
  keeps : DrainKeeps l.initial.outcome-iterator l.outcome-iterator;
  entered : l.history.items ++ entries l.pass (drain_items l.outcome-iterator) ≡ l.initial.history.items ++ entries l.pass (drain_items l.initial.outcome-iterator);
  room : vec_len l.history + length (drain_items l.outcome-iterator) ≤ vec_capacity l.history;
}
