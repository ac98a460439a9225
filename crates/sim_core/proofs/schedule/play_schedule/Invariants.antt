use Rattle.std.proofs.Common.{◌≡◌, ◌+◌, [], take}
use Rattle.sim_core.specs.Setup.{steps_left_after}
use Rattle.sim_core.proofs.schedule.play_schedule.Given as goal

-- The machine stands behind the steps so far, and each of them took one from those that were left.
abbrev pub invariant-loop-place : goal.invariant-loop-place
invariant-loop-place g l = record {
  stands : g.M.Machine.stands l.machine (take l.place l.steps);
  setup : g.M.Machine.setup l.machine ≡ g.M.Machine.setup l.fn.machine;
  left : steps_left_after (g.M.Machine.setup l.fn.machine) (take l.place l.steps) + l.place ≡ steps_left_after (g.M.Machine.setup l.fn.machine) [];
}
