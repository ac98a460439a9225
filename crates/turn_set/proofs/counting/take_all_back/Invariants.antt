use Rattle.std.proofs.Common.{◌++◌, List, length}
use Rattle.tally.specs.declared.outcome.Outcome.{Outcome}
use Rattle.tally.specs.Tallies.{IsTally}
use Rattle.turn_set.proofs.counting.take_all_back.Given as goal

abbrev pub invariant-loop-last : goal.invariant-loop-last
invariant-loop-last l = (outcomes : List Outcome) → IsTally (outcomes ++ l.counted) l.initial.tally → IsTally (outcomes ++ l.left) l.tally

abbrev pub decreases-loop-last : goal.decreases-loop-last
decreases-loop-last l = length l.left
