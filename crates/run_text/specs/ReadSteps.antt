-- What a reader of steps finds and keeps.
use Rattle.std.specs.Prelude.{◌≡◌, ℕ, List, ◌++◌, Bool, Option, Some, None, Result, Ok, Err, if◌then◌else◌}
use Rattle.std.specs.Option.{option_map}
use Rattle.test_lang.specs.declared.step.Step.{Step}
use Rattle.run_text.specs.declared.fault.RunFault.{RunFault}
use Rattle.run_text.specs.declared.step_text.ReadStep.{ReadStep}
use Rattle.run_text.specs.declared.step_text.ReadStep.TheVariants.{Fits, IsLarge}
use Rattle.run_text.specs.RunLine.{Refuses}
use Rattle.run_text.specs.Steps.{fits_step, all_steps_fit, fitting, all_steps}

-- a step as it is read
abbrev pub as_read : Step → ReadStep
as_read step = if fits_step step then Fits step else IsLarge

-- What was found of these steps: whether all fit; those that do were kept.
pub record AreKept (old : List Step) (found : Bool) (new steps : List Step) : Type 0 where
  pub fit : found ≡ all_steps_fit steps
  pub kept : new ≡ old ++ fitting steps

abbrev pub MayKeepSteps : List Step → Option Bool → List Step → Option (List Step) → Type 0
MayKeepSteps old (Some found) new (Some steps) = AreKept old found new steps
MayKeepSteps old (Some found) new None = ⊥
MayKeepSteps old None new (Some steps) = ⊥
MayKeepSteps old None new None = Unit {0}

-- The steps are appended that reading gives, or nothing is changed and the refusal is that of reading.
abbrev pub AppendsSteps : {X : Type 0} → List Step → Result X RunFault → List Step → Result (List Step) RunFault → Type 0
AppendsSteps old (Ok x) new (Ok steps) = new ≡ old ++ steps
AppendsSteps old (Ok x) new (Err fault) = ⊥
AppendsSteps old (Err fault) new read = (new ≡ old) × Refuses fault read

-- These steps were read so far, and these texts are left of all.
pub record StepsSoFar (all left : List (List ℕ)) (old : List Step) (found : Bool) (new steps : List Step) : Type 0 where
  pub keeps : AreKept old found new steps
  pub rest : option_map (λ more. steps ++ more) (all_steps left) ≡ all_steps all
