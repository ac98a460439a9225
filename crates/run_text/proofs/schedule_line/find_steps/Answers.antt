use Rattle.std.proofs.Common.{ap, ◌∙◌}
use Rattle.run_text.specs.Steps.{parts_behind}
use Rattle.run_text.proofs.KeptSteps.{steps-fits, steps-large}
use Rattle.run_text.proofs.schedule_line.find_steps.Goals as goal

pub parts-preserved-in_ok-push-in-Some-Fits : goal.parts-preserved-in_ok-push-in-Some-Fits
parts-preserved-in_ok-push-in-Some-Fits c =
    let next = steps-fits _ _ _ _ _ _ c.parts.invariant.1 c.cut_at_space-in-Some.result.0.now (parts_behind c.cut_at_space-in-Some.result.1.now)
    (ap parts_behind c.in-Some.ensures.cases.0 ∙ c.cut_at_space-in-Some.ensures.parts) c.in-Some-Fits.field-0 c.in-Some-Fits.step c.in-Some-Fits.ensures c.in-Some-Fits.field-0-is in
    rw c.in_ok-push-in-Some-Fits.ensures.items next

pub parts-preserved : goal.parts-preserved
parts-preserved c =
    steps-large _ _ _ _ _ _ c.parts.invariant.1 c.cut_at_space-in-Some.result.0.now (parts_behind c.cut_at_space-in-Some.result.1.now)
    (ap parts_behind c.in-Some.ensures.cases.0 ∙ c.cut_at_space-in-Some.ensures.parts) c.in-Some-IsLarge.field-0 c.in-Some-IsLarge.ensures c.in-Some-IsLarge.field-0-is
