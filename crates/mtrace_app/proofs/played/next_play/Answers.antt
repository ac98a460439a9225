use Rattle.std.proofs.Common.{◌∙◌, ℕ, List, ap, subst, Ok, Err}
use Rattle.std.proofs.lemmas.Result.{err_from_is_err_and}
use Rattle.test_lang.specs.declared.step.Step.{Step}
use Rattle.run_text.specs.ScheduleReader.{GivesSchedule}
use Rattle.sim_core.specs.Setup.{Setup}
use Rattle.sim_core.specs.Schedules.{ComesOut}
use Rattle.mtrace_app.specs.Inputs.{fault_of_play}
use Rattle.mtrace_app.specs.declared.failure.Failure.TheVariants.{Refused}
use Rattle.mtrace_app.specs.declared.refusal.Refusal.TheVariants.{Input}
use Rattle.mtrace_app.proofs.Counts.{no_of}
use Rattle.mtrace_app.proofs.NextPlay.{line_refused, play_refused, schedule_read}
use Rattle.mtrace_app.proofs.played.next_play.Goals as goal

pub returns-in_err-next-clause-refused : goal.returns-in_err-next-clause-refused
returns-in_err-next-clause-refused g c =
    let p = err_from_is_err_and c.from_residual.result c.from_residual.ensures.1 in
    let found = no_of _ _ c.requires c.in_err-next.ensures.found in
    let gives = subst (λ (old : List Step). GivesSchedule (Err c.in_err-next.field-0.0) old c.next.new.steps.items c.args.lines.now c.next.new.self found.0) c.clear.ensures.items found.2 in
    rw (p.1, p.2) (line_refused (g.M.Machine.setup c.args.machine.now) c.args.lines.now c.next.new.self c.next.new.steps.items found.0 found.1 c.in_err-next.field-0.0 gives)

pub returns-in-Err-clause-refused : goal.returns-in-Err-clause-refused
returns-in-Err-clause-refused g c =
    let setup = g.M.Machine.setup c.args.machine.now in
    let steps = c.next.new.steps.items in
    let found = no_of _ _ c.requires c.in_ok-next.ensures.found in
    let read = schedule_read c.args.lines.now c.next.new.self c.in_ok-next.field-0 steps found.0 c.if-not-branch.false found.1
    (subst (λ (old : List Step). GivesSchedule (Ok c.in_ok-next.field-0) old steps c.args.lines.now c.next.new.self found.0) c.clear.ensures.items found.2) in
    let out = subst (λ (s : Setup). ComesOut s steps (Err c.in-Err.fault)) c.reset.ensures.setup
    (subst (λ (xs : List Step). ComesOut (g.M.Machine.setup c.reset.new.self) xs (Err c.in-Err.fault)) c.deref.ensures.value c.in-Err.ensures.outcome) in
    play_refused setup c.args.lines.now c.next.new.self steps c.in-Err.fault c.refused_play.result read out
    (c.refused_play.ensures ∙ ap (λ (n : ℕ). Refused (Input (fault_of_play n c.in-Err.fault))) c.line-line.ensures)
