use Rattle.std.proofs.Common.{◌≡◌, ◌++◌, ◌≤◌, List, length, map}
use Rattle.tally.specs.declared.outcome.Outcome.{Outcome}
use Rattle.runner.specs.Runners.{PutFrom}
use Rattle.runner.proofs.all.put_all.Given as goal

abbrev pub invariant-batches : goal.invariant-batches
invariant-batches l = record {
  finished_length_is : l.finished.finished_length ≡ l.initial.finished.finished_length;
  busy_is : l.finished.busy ≡ l.initial.finished.busy;
  few : length l.batches.items ≤ 64;
  left : (rest : List (List Outcome)) × (map (λ batch. batch.items) l.batches.items ++ rest ≡ map (λ batch. batch.items) l.initial.batches.items);
  put : PutFrom l.initial.finished.history (map (λ batch. batch.items) l.initial.batches.items) (length l.batches.items) l.finished.history;
}

abbrev pub decreases-batches : goal.decreases-batches
decreases-batches l = length l.batches.items
