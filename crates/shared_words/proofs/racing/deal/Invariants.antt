use Rattle.std.proofs.Common.{◌≡◌, ◌≤◌, ◌+◌, ◌<◌, [], ℕ, length}
use Rattle.std.specs.Prelude.{slice_index_or}
use Rattle.std.specs.Vec.{vec_capacity}
use Rattle.shared_words.specs.declared.racer.Task.{Task}
use Rattle.shared_words.specs.Rule.{maker_of}
use Rattle.shared_words.specs.Tasks.{IsReady}
use Rattle.shared_words.proofs.racing.deal.Given as goal

abbrev pub invariant-loop-number : goal.invariant-loop-number
invariant-loop-number l = record {
  same : l.first.table_id ≡ l.initial.first.table_id;
  first : l.first.me ≡ (maker_of l.number, []);
  count : length l.tasks.items + 1 ≡ l.number;
  ready : (k : ℕ) (d : Task) → k < length l.tasks.items → IsReady l.words.table_id l.test (k + 1) (slice_index_or l.tasks.items k d);
  room : length l.test.threads ≤ vec_capacity l.tasks;
}
