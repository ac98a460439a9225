use Rattle.std.proofs.Common.{◌≡◌, ◌+◌, length}
use Rattle.verdict_report.specs.Lines.{outsides}
use Rattle.verdict_report.proofs.lines.count_outside.Given as goal

abbrev pub invariant-loop-outcome : goal.invariant-loop-outcome
invariant-loop-outcome l = l.count + length (outsides l.outcome-iterator) ≡ length (outsides l.tally)
