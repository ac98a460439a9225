use Rattle.std.proofs.Common.{◌≡◌, length}
use Rattle.test_lang.specs.Signatures.{groups}
use Rattle.mtrace_app.proofs.RacedSoFar.{AreRacedSoFar}
use Rattle.mtrace_app.proofs.raced.race_runs.Given as goal

abbrev pub invariant-races : goal.invariant-races
invariant-races g l = record {
  so_far : AreRacedSoFar l.test l.index l.counter l.lines.items;
  words : length l.words.items ≡ length (groups l.plan);
  width : l.counter.width ≡ length (groups l.plan);
}
