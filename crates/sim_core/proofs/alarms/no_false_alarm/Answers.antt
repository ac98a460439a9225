use Rattle.sim_core.specs.Setup.{Setup}
use Rattle.sim_core.proofs.NoAlarm.{inside_by, ordered_by}
use Rattle.sim_core.proofs.alarms.no_false_alarm.Goals as goal

pub returns-clause-inside : goal.returns-clause-inside
returns-clause-inside g c = λ steps stands none done.
    let setup : Setup = g.M.Machine.setup c.args.machine.now in
    let limits = g.met.M.Machine.limits c.args.machine.now steps stands in
    inside_by setup steps (g.met.M.Machine.is_play c.args.machine.now steps stands) none done
    (λ play. c.done_plays_raise_no_alarm.ensures.inside setup.target setup.test steps limits play)

pub returns-clause-ordered : goal.returns-clause-ordered
returns-clause-ordered g c = λ weaker steps stands none done is_weaker.
    let setup : Setup = g.M.Machine.setup c.args.machine.now in
    ordered_by setup steps (g.met.M.Machine.is_play c.args.machine.now steps stands) none done weaker
    (λ play. c.done_plays_raise_no_alarm.ensures.ordered setup.target weaker setup.test steps is_weaker play)
