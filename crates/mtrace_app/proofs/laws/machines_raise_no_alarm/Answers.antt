use Rattle.mtrace_app.proofs.NoAlarm.{no_alarm}
use Rattle.mtrace_app.proofs.laws.machines_raise_no_alarm.Goals as goal

pub returns : goal.returns
returns c = no_alarm (record { inside = c.done_plays_raise_no_alarm.ensures.inside; ordered = c.done_plays_raise_no_alarm.ensures.ordered })
