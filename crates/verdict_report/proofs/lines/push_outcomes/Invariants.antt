use Rattle.std.proofs.Common.{◌++◌}
use Rattle.test_lang.specs.Text.Line.{closed}
use Rattle.verdict_report.proofs.Walk.{IsSoFar, walk}
use Rattle.verdict_report.proofs.lines.push_outcomes.Given as goal

-- What is written and what is left of the tally make up the lines of all outcomes.
abbrev pub invariant-loop-outcome : goal.invariant-loop-outcome
invariant-loop-outcome l = record {
  can_next : (goal.iterator-loop-outcome).can_next l.outcome-iterator;
  is_finite : (goal.iterator-loop-outcome).is_finite l.outcome-iterator;
  so_far : IsSoFar (l.fn.out.items ++ closed (walk l.tally l.found)) l.tally l.found l.out.items l.place l.outside l.outcome-iterator;
}
