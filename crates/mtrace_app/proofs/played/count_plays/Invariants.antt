use Rattle.std.proofs.Common.{◌≡◌, length}
use Rattle.test_lang.specs.Signatures.{groups}
use Rattle.mtrace_app.specs.Inputs.{schedules_behind}
use Rattle.mtrace_app.proofs.PlaysSoFar.{ArePlayed}
use Rattle.mtrace_app.proofs.played.count_plays.Given as goal

abbrev pub invariant-plays : goal.invariant-plays
invariant-plays g l = record {
  setup : g.M.Machine.setup l.machine ≡ g.M.Machine.setup l.fn.machine;
  played : ArePlayed (g.M.Machine.setup l.fn.machine) (schedules_behind l.line l.text) l.lines l.runs l.counter;
  words : length l.words.items ≡ length (groups l.plan);
  width : l.counter.width ≡ length (groups l.plan);
}

abbrev pub decreases-plays : goal.decreases-plays
decreases-plays g l = length l.lines.left
