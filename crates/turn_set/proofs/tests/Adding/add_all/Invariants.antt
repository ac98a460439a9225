use Rattle.std.proofs.Common.{◌≡◌}
use Rattle.turn_set.specs.Passes.{IsPassOf}
use Rattle.turn_set.proofs.tests.Adding.add_all.Given as goal

abbrev pub invariant-loop-place : goal.invariant-loop-place
invariant-loop-place g l = IsPassOf l.set l.pass × (l.pass.number ≡ l.initial.pass.number)
