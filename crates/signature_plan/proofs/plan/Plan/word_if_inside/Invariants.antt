use Rattle.std.proofs.Common.{◌≡◌, ◌≤◌}
use Rattle.std.specs.Bool.{OnTrue}
use Rattle.test_lang.specs.Runs.{IsInside}
use Rattle.test_lang.specs.Signatures.{candidate_count, place}
use Rattle.signature_plan.specs.Words.{ReadCandidates, loads_between, mixed_radix}
use Rattle.signature_plan.proofs.plan.Plan.word_if_inside.Given as goal

abbrev pub invariant-loop-rank : goal.invariant-loop-rank
invariant-loop-rank l = record {
  from : l.first ≤ l.rank;
  inside : OnTrue l.inside (ReadCandidates l.self l.run l.rank l.end);
  word : IsInside l.self l.run → l.word ≡ mixed_radix (candidate_count l.self) (place l.self l.run) (loads_between l.self l.rank l.end);
}
