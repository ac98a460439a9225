use Rattle.std.proofs.Common.{◌≡◌, length}
use Rattle.test_lang.specs.Signatures.{groups}
use Rattle.run_count.specs.Counts.{text_of}
use Rattle.run_count.proofs.SoFar.{IsSoFar}
use Rattle.run_count.proofs.piece.count_piece.Given as goal

abbrev pub invariant-runs : goal.invariant-runs
invariant-runs l = record {
  so_far : IsSoFar l.most l.plan (text_of l.plan 0 l.text) l.lines l.runs l.counter;
  words : length l.words.items ≡ length (groups l.plan);
  width : l.counter.width ≡ length (groups l.plan);
}

abbrev pub decreases-runs : goal.decreases-runs
decreases-runs l = length l.lines.left
