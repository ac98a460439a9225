use Rattle.std.proofs.Common.{◌≡◌, ◌≤◌, take}
use Rattle.std.specs.Prelude.{count_by}
use Rattle.verdict_report.specs.Lines.{is_ok}
use Rattle.verdict_report.proofs.lines.count_ok.Given as goal

abbrev pub invariant-loop-judged : goal.invariant-loop-judged
invariant-loop-judged l = record {
  below : l.count ≤ l.judged-index;
  counted : l.count ≡ count_by is_ok (take l.judged-index l.found);
}
