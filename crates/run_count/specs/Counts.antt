-- Runs of a test that were counted.
use Rattle.std.specs.Prelude.{◌≡◌, ◌⊎◌, ℕ, ◌≤◌, List, map, length, false, Err}
use Rattle.tally.specs.declared.outcome.Outcome.{Outcome}
use Rattle.tally.specs.Tallies.{IsTally, total_of}
use Rattle.test_lang.specs.Program.{Program}
use Rattle.test_lang.specs.Values.{load_count}
use Rattle.run_text.specs.declared.fault.RunFault.{RunFault}
use Rattle.run_text.specs.declared.fault.RunFault.TheVariants.{Memory}
use Rattle.run_text.specs.Reader.{Reader}
use Rattle.run_text.specs.Runs.{AreRunsOf, reading}
use Rattle.signature_plan.specs.Outcomes.{outcome_of}

-- So many runs of a test, and the tally of their outcomes where they are at most so many.
pub record AreCountedUpTo (most : ℕ) (p : Program) (runs : List (List ℕ)) (count : ℕ) (tally : List (Outcome × ℕ)) : Type 0 where
  pub each : AreRunsOf (load_count p) runs
  pub number : count ≡ length runs
  pub counts : count ≤ most → IsTally (map (outcome_of p) runs) tally
  pub sum : count ≤ most → total_of tally ≡ count

-- the reader of the runs of a test, whose first line has this number
abbrev pub text_of : Program → ℕ → List ℕ → Reader
text_of p line bytes = record { left = bytes; line = line; loads = load_count p; is_done = false }

-- the text is refused so, or memory was refused
abbrev pub RefusesText : Reader → RunFault → Type 0
RefusesText reader fault = (fault ≡ Memory) ⊎ (reading reader ≡ Err fault)
