-- What comes of a schedule that is played.
use Rattle.std.specs.Prelude.{◌≡◌, ℕ, List, take, IsFalse, Result, Ok, Err, Some, slice_get}
use Rattle.test_lang.specs.declared.step.Step.{Step}
use Rattle.sim_core.specs.declared.schedule.PlayFault.{PlayFault}
use Rattle.sim_core.specs.declared.schedule.PlayFault.TheVariants.{NotEnabled, Unfinished}
use Rattle.sim_core.specs.Setup.{Setup, is_enabled_after, is_done_after, IsPlayOf, IsDonePlayOf}

-- the steps before this place are a play, and the one at it isn't enabled
pub record IsFirstNotEnabled (setup : Setup) (steps : List Step) (place : ℕ) : Type 0 where
  pub before : IsPlayOf setup (take place steps)
  pub step : Step
  pub at : slice_get steps place ≡ Some step
  pub not_enabled : IsFalse (is_enabled_after setup (take place steps) step)

-- the steps are a play that isn't done
pub record IsUnfinished (setup : Setup) (steps : List Step) : Type 0 where
  pub is_play : IsPlayOf setup steps
  pub not_done : IsFalse (is_done_after setup steps)

-- Whether a schedule is played to its end, and how it fails.
abbrev pub ComesOut : Setup → List Step → Result Unit PlayFault → Type 0
ComesOut setup steps (Ok done) = IsDonePlayOf setup steps
ComesOut setup steps (Err (NotEnabled place)) = IsFirstNotEnabled setup steps place
ComesOut setup steps (Err Unfinished) = IsUnfinished setup steps

-- the steps that were taken
abbrev pub taken : List Step → Result Unit PlayFault → List Step
taken steps (Ok done) = steps
taken steps (Err (NotEnabled place)) = take place steps
taken steps (Err Unfinished) = steps
