use Rattle.std.proofs.Common.{◌≡◌}
use Rattle.mt_base.specs.Words.{draws_after}
use Rattle.sim_core.proofs.DrawnPlays.{AreDrawnSoFar}
use Rattle.sim_core.proofs.drawn.play_drawn.Given as goal

abbrev pub invariant-steps : goal.invariant-steps
invariant-steps g l = record {
  drawn : AreDrawnSoFar (g.M.Machine.setup l.fn.machine) l.seed l.run (g.M.Machine.stands l.machine) l.counter;
  behind : l.draws ≡ draws_after l.seed l.run l.counter;
  setup : g.M.Machine.setup l.machine ≡ g.M.Machine.setup l.fn.machine;
}
