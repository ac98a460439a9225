use Rattle.std.proofs.Common.{◌+◌, ◌-◌, ◌^◌, ◌<◌, ◌++◌, List, length, take}
use Rattle.tally.specs.declared.outcome.Outcome.{Outcome}
use Rattle.tally.specs.Tallies.{IsTally, total_of}
use Rattle.turn_set.proofs.counting.count_all.Given as goal

abbrev pub invariant-loop-counted : goal.invariant-loop-counted
invariant-loop-counted l = record {
  tally : (outcomes : List Outcome) → IsTally outcomes l.initial.tally → IsTally (outcomes ++ take l.counted l.batch) l.tally;
  room : total_of l.tally + (length l.batch - l.counted) < 2 ^ 64;
}
