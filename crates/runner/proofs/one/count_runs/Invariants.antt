use Rattle.std.proofs.Common.{◌≡◌, length}
use Rattle.test_lang.specs.Signatures.{groups}
use Rattle.runner.specs.Jobs.{setup_of}
use Rattle.runner.proofs.DrawnSoFar.{AreCountedSoFar}
use Rattle.runner.proofs.one.count_runs.Given as goal

abbrev pub invariant-runs : goal.invariant-runs
invariant-runs g l = record {
  setup : g.M.Machine.setup l.machine ≡ setup_of l.job;
  counted : AreCountedSoFar (setup_of l.job) l.job.seed l.run l.counter;
  words : length l.words.items ≡ length (groups l.job.plan.now);
  width : l.counter.width ≡ length (groups l.job.plan.now);
}
