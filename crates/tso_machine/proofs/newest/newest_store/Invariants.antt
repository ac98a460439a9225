use Rattle.std.proofs.Common.{◌≡◌, ◌≤◌, [], drop, length}
use Rattle.std.specs.Prelude.{filter}
use Rattle.test_lang.specs.Play.States.{stores_to}
use Rattle.tso_machine.proofs.newest.newest_store.Given as goal

abbrev pub invariant-loop-place : goal.invariant-loop-place
invariant-loop-place l = record { within : l.place ≤ length l.entries; none : filter (stores_to l.test l.word) (drop l.place l.entries) ≡ [] }

abbrev pub decreases-loop-place : goal.decreases-loop-place
decreases-loop-place l = l.place
