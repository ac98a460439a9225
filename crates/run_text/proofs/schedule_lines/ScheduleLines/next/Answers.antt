use Rattle.std.proofs.Common.{◌≡◌, false, Ok, subst}
use Rattle.std.proofs.lemmas.Bool.{OnTrue_at, OnTrue_from, OnFalse_from}
use Rattle.run_text.specs.ScheduleReader.{schedule_turn, GivesSchedule}
use Rattle.run_text.proofs.ScheduleMeaning.{schedule_turn_means, means_schedule_turn, ended_stays}
use Rattle.run_text.proofs.schedule_lines.ScheduleLines.next.Goals as goal

pub returns-clause-found : goal.returns-clause-found
returns-clause-found c =
    OnFalse_from c.args.self.now.is_done _ (λ not_yet. (schedule_turn c.args.self.now, schedule_turn_means c.args.self.now not_yet, c.step.ensures.exact))

pub returns-clause-only : goal.returns-clause-only
returns-clause-only c =
    OnFalse_from c.args.self.now.is_done _ (λ not_yet o means.
    subst (GivesSchedule c.step.result c.args.steps.now.items c.step.new.steps.items c.args.self.now c.step.new.self) (means_schedule_turn c.args.self.now o not_yet means) c.step.ensures.exact)

pub returns-clause-ended : goal.returns-clause-ended
returns-clause-ended c =
    OnTrue_from c.args.self.now.is_done _ (λ done.
    let answer : c.step.result ≡ Ok false = OnTrue_at done c.step.ensures.ended in
    ended_stays _ _ _ _ _ done answer c.step.ensures.exact)
