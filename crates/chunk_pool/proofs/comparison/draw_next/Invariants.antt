use Rattle.std.proofs.Common.{◌≡◌, length}
use Rattle.test_lang.specs.Runs.{IsInside}
use Rattle.chunk_pool.proofs.comparison.draw_next.Given as goal

abbrev pub invariant-loop-rank : goal.invariant-loop-rank
invariant-loop-rank l = record {
  inside : IsInside l.plan l.run;
  words : length l.words ≡ length l.initial.words;
}
