use Rattle.std.proofs.Common.{◌≡◌, ◌++◌}
use Rattle.verdict_report.specs.Lines.{signatures}
use Rattle.mtrace_app.specs.Report.{words_of}
use Rattle.mtrace_app.proofs.counted.signatures_of.Given as goal

-- The signatures that were copied, and those that are left.
abbrev pub invariant-loop-outcome : goal.invariant-loop-outcome
invariant-loop-outcome l = record {
  can_next : (goal.iterator-loop-outcome).can_next l.outcome-iterator;
  is_finite : (goal.iterator-loop-outcome).is_finite l.outcome-iterator;
  so_far : l.found.items ++ words_of (signatures l.outcome-iterator) ≡ words_of (signatures l.tally);
}
