use Rattle.std.proofs.Common.{◌≡◌, ◌+◌, ◌-◌, ◌≤◌, ◌++◌, length}
use Rattle.test_lang.specs.Signatures.{groups}
use Rattle.turn_set.specs.Passes.{IsPassOf}
use Rattle.runner.specs.Jobs.{setup_of}
use Rattle.runner.proofs.Played.{HasPlayed}
use Rattle.runner.proofs.work.play_all.Given as goal

abbrev pub invariant-runs : goal.invariant-runs
invariant-runs g l = record {
  pass : IsPassOf l.set l.task.pass;
  number : l.task.pass.number ≡ l.fn.task.pass.number;
  setup : g.M.Machine.setup l.task.machine ≡ setup_of l.job;
  words : length l.task.words.items ≡ length (groups l.job.test.now);
  room : l.run ≤ l.job.runs + 64;
  played : HasPlayed l.job l.runners l.fn.task.pass.number l.run (l.task.pass.list ++ l.task.batch.items);
}

abbrev pub decreases-runs : goal.decreases-runs
decreases-runs g l = l.job.runs - l.run
