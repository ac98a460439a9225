use Rattle.std.proofs.Common.{◌≡◌, sym, subst}
use Rattle.std.specs.Prelude.{IfErr}
use Rattle.command_line.specs.declared.meaning.Command.{Command}
use Rattle.mtrace_app.specs.declared.refusal.InputFault.{InputFault}
use Rattle.mtrace_app.specs.declared.refusal.Refusal.TheVariants.{Input}
use Rattle.mtrace_app.specs.Failures.{IfRefused}
use Rattle.mtrace_app.specs.Inputs.{RefusesBy}
use Rattle.mtrace_app.proofs.input.read_recorded.Goals as goal

pub returns-in-Check-clause-err : goal.returns-in-Check-clause-err
returns-in-Check-clause-err g c =
    subst (λ (d : Command). IfErr c.read_runs.result (IfRefused (λ refusal. (fault : InputFault) × (refusal ≡ Input fault) × RefusesBy d c.args.settings.now c.args.input.now fault))) (sym c.in-Check.is) c.read_runs.ensures.err

pub returns-in-Replay-clause-err : goal.returns-in-Replay-clause-err
returns-in-Replay-clause-err g c =
    subst (λ (d : Command). IfErr c.read_plays.result (IfRefused (λ refusal. (fault : InputFault) × (refusal ≡ Input fault) × RefusesBy d c.args.settings.now c.args.input.now fault))) (sym c.in-Replay.is) c.read_plays.ensures.err

pub returns-in-Run-clause-err : goal.returns-in-Run-clause-err
returns-in-Run-clause-err g c =
    subst (λ (d : Command). IfErr c.draw_runs_of_input.result (IfRefused (λ refusal. (fault : InputFault) × (refusal ≡ Input fault) × RefusesBy d c.args.settings.now c.args.input.now fault))) (sym c.in-Run.is) c.draw_runs_of_input.ensures.err
