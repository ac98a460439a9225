use Rattle.std.proofs.Common.{◌≡◌, ℕ, ◌+◌, ◌≤◌, length, Some}
use Rattle.std.specs.Prelude.{slice_get}
use Rattle.std.specs.Vec.{vec_capacity}
use Rattle.turn_set.specs.Passes.{PassState, IsFresh, IsPassOf}
use Rattle.runner.specs.Runners.{AreReady}
use Rattle.runner.proofs.all.tasks_of.Given as goal

abbrev pub invariant-passes : goal.invariant-passes
invariant-passes g l = record {
  sum : length l.tasks.items + length l.passes.items ≡ l.set.passes;
  room : l.set.passes ≤ vec_capacity l.tasks;
  left : (j : ℕ) (p : PassState) → slice_get l.passes.items j ≡ Some p → (p.number ≡ length l.tasks.items + j) × IsPassOf l.set p × IsFresh p;
  ready : AreReady g.M.Machine.setup l.job l.set l.tasks.items;
}

abbrev pub decreases-passes : goal.decreases-passes
decreases-passes g l = length l.passes.items
