-- Schedules that are read and played, one after another.
use Rattle.std.specs.Prelude.{◌≡◌, ℕ, List, [], ◌∷◌, ◌++◌, Bool, true, false, codes}
use Rattle.test_lang.specs.declared.step.Step.{Step}
use Rattle.run_text.specs.ScheduleReader.{Schedules, behind}
use Rattle.sim_core.specs.Setup.{Setup}
use Rattle.mtrace_app.specs.Inputs.{IsLineOfPlay}

-- A schedule was read and played to its end, and the machine stands there.
pub record IsPlayRead (setup : Setup) (Stands : List Step → Type 0) (before after : Schedules) : Type 0 where
  pub steps : List Step
  pub line : List ℕ
  pub is_line : IsLineOfPlay setup steps line
  pub whole : before.left ≡ line ++ 10 ∷ after.left
  pub reader : after ≡ behind before after.left false
  pub stands : Stands steps

-- What a call tells, by whether there was a schedule.
abbrev pub PlaysOn : Setup → (List Step → Type 0) → Bool → Schedules → Schedules → Type 0
PlaysOn setup Stands true before after = IsPlayRead setup Stands before after
PlaysOn setup Stands false before after = before.left ≡ codes "done" ++ 10 ∷ []
