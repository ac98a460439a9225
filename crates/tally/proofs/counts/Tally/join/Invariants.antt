use Rattle.tally.proofs.Joining.{IsJoining}
use Rattle.tally.proofs.counts.Tally.join.Given as goal

abbrev pub invariant-loop-outcome : goal.invariant-loop-outcome
invariant-loop-outcome l = IsJoining l.initial.self l.fn.other l.self l.outcome-iterator
