use Rattle.std.proofs.Common.{◌≡◌, ◌+◌, ◌≤◌, ◌++◌, map, length}
use Rattle.std.specs.Vec.{vec_capacity}
use Rattle.runner.specs.declared.task.Ran.{Ran}
use Rattle.runner.proofs.all.part.Given as goal

abbrev pub invariant-rans : goal.invariant-rans
invariant-rans l = record {
  passes_are : l.passes.items ++ map (λ (ran : Ran). ran.pass) l.rans.items ≡ map (λ (ran : Ran). ran.pass) l.initial.rans.items;
  batches_are : l.batches.items ++ map (λ (ran : Ran). ran.batch) l.rans.items ≡ map (λ (ran : Ran). ran.batch) l.initial.rans.items;
  room : length l.passes.items + length l.rans.items ≤ vec_capacity l.passes;
  room_of_batches : length l.batches.items + length l.rans.items ≤ vec_capacity l.batches;
}

abbrev pub decreases-rans : goal.decreases-rans
decreases-rans l = length l.rans.items
