use Rattle.std.proofs.Common.{length, List}
use Rattle.test_lang.specs.declared.step.Step.{Step}
use Rattle.run_text.specs.Steps.{parts_behind}
use Rattle.run_text.specs.ReadSteps.{StepsSoFar}
use Rattle.run_text.proofs.schedule_line.find_steps.Given as goal

-- The steps so far, whichever they are, and then those of the texts that are left.
abbrev pub invariant-parts : goal.invariant-parts
invariant-parts l = (steps : List Step) × StepsSoFar (parts_behind l.initial.left) (parts_behind l.left) l.fn.steps.items l.all_fit l.steps.items steps

abbrev pub decreases-parts : goal.decreases-parts
decreases-parts l = length l.left
