use Rattle.std.proofs.Common.{◌≡◌}
use Rattle.verdict_report.specs.Lines.{has_outside}
use Rattle.verdict_report.proofs.clean.has_outside.Given as goal

abbrev pub invariant-loop-outcome : goal.invariant-loop-outcome
invariant-loop-outcome l = has_outside l.outcome-iterator ≡ has_outside l.tally
