use Rattle.std.proofs.Common.{◌≡◌, ℕ}
use Rattle.turn_set.specs.Passes.{missed_often}
use Rattle.turn_set.proofs.set.SharedSet.add.Given as goal

abbrev pub invariant-loop : goal.invariant-loop
invariant-loop g l = record {
  goes : (goal.iterator-loop g).can_next l.iterator';
  finite : (goal.iterator-loop g).is_finite l.iterator';
  pass : (n : ℕ) × (l.pass ≡ missed_often l.initial.pass n);
  batch : l.batch.items ≡ l.initial.batch.items;
}
