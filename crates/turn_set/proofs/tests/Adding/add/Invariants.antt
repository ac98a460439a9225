use Rattle.std.proofs.Common.{◌≡◌}
use Rattle.turn_set.specs.Passes.{IsPassOf}
use Rattle.turn_set.proofs.tests.Adding.add.Given as goal

abbrev pub invariant-loop : goal.invariant-loop
invariant-loop g l = record {
  goes : (goal.iterator-loop g).can_next l.iterator';
  finite : (goal.iterator-loop g).is_finite l.iterator';
  pass : IsPassOf l.set l.pass × (l.pass.number ≡ l.initial.pass.number);
}
