-- Drawn runs: what the loads give when each step is a choice that a word of a seed names.
use Rattle.std.specs.Prelude.{◌≡◌, ℕ, ◌<◌, ◌%◌, List, take, length, Some, slice_get}
use Rattle.mt_base.specs.Words.{word}
use Rattle.test_lang.specs.declared.step.Step.{Step}
use Rattle.sim_core.specs.Setup.{Setup, choices_after, run_after, IsDonePlayOf}

-- the number that word j of a seed and a stream names among the choices after the first j steps
abbrev pub drawn_number : Setup → ℕ → ℕ → List Step → ℕ → ℕ
drawn_number setup seed stream steps j = word seed stream j % length (choices_after setup (take j steps))

-- Step j is the choice with this number, after the first j steps.
abbrev pub AreDrawn : Setup → ℕ → ℕ → List Step → Type 0
AreDrawn setup seed stream steps = (j : ℕ) → j < length steps → slice_get (choices_after setup (take j steps)) (drawn_number setup seed stream steps j) ≡ slice_get steps j

-- The drawn play of a run: the run's number is the stream, and the play goes on to its end.
pub record IsDrawnPlay (setup : Setup) (seed run : ℕ) (steps : List Step) : Type 0 where
  pub are_drawn : AreDrawn setup seed run steps
  pub is_done_play : IsDonePlayOf setup steps

-- The drawn run: what the loads of that play give.
pub record IsDrawnRun (setup : Setup) (seed run : ℕ) (values : List ℕ) : Type 0 where
  pub steps : List Step
  pub is_drawn_play : IsDrawnPlay setup seed run steps
  pub gives : values ≡ run_after setup steps

-- The drawn runs of a seed, so many, from run 0 on.
pub record AreDrawnRuns (setup : Setup) (seed count : ℕ) (runs : List (List ℕ)) : Type 0 where
  pub number : length runs ≡ count
  pub each : (r : ℕ) (values : List ℕ) → slice_get runs r ≡ Some values → IsDrawnRun setup seed r values
