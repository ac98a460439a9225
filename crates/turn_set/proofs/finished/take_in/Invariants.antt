use Rattle.std.proofs.Common.{◌≡◌, ◌++◌, List, length}
use Rattle.turn_set.specs.Passes.{PassState, HasTakenIn}
use Rattle.turn_set.proofs.finished.take_in.Given as goal

abbrev pub invariant-loop-pass : goal.invariant-loop-pass
invariant-loop-pass l =
    (l.seat.table_id ≡ l.initial.seat.table_id) × ((rest : List PassState) × (l.passes.items ++ rest ≡ l.initial.passes.items) × HasTakenIn l.initial.seat.me.0 rest l.seat.me.0)

abbrev pub decreases-loop-pass : goal.decreases-loop-pass
decreases-loop-pass l = length l.passes.items
