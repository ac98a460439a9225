use Rattle.mtrace_app.proofs.RacesChecked.{reported_as_checked}
use Rattle.mtrace_app.proofs.laws.races_are_reported_as_checked.Goals as goal

pub returns : goal.returns
returns c = reported_as_checked (record { inside = c.done_plays_raise_no_alarm.ensures.inside; ordered = c.done_plays_raise_no_alarm.ensures.ordered })
