use Rattle.std.proofs.Common.{Bool, Option, Some, ap, ◌∙◌, subst}
use Rattle.run_text.specs.Steps.{schedule_steps}
use Rattle.run_text.specs.ReadSteps.{MayKeepSteps}
use Rattle.run_text.proofs.KeptSteps.{judged-fitting}
use Rattle.run_text.proofs.schedule_line.read_schedule.Goals as goal

pub returns-in-Ok-Some-true : goal.returns-in-Ok-Some-true
returns-in-Ok-Some-true c =
    judged-fitting c.args.number c.args.steps.now.items c.find_steps.new.steps.items (schedule_steps c.args.line.now)
    (subst (λ (found : Option Bool). MayKeepSteps c.args.steps.now.items found c.find_steps.new.steps.items (schedule_steps c.args.line.now))
    (c.in-Ok-Some-true.field-0-is ∙ ap Some c.in-Ok-Some-true.field-0-0-test) c.in-Ok-Some-true.ensures.exact)
