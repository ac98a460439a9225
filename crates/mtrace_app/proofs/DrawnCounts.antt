-- The counts of drawn runs, and of those that aren't drawn since they pass a limit.
use Rattle.std.proofs.Common.{◌≡◌, ◌∙◌, ℕ, List, map, Bool, true, false, sym, subst}
use Rattle.std.specs.Prelude.{IsTrue}
use Rattle.std.specs.List.{AllByRecursion}
use Rattle.tally.specs.declared.outcome.Outcome.{Outcome}
use Rattle.tally.specs.Tallies.{IsTally, total_of}
use Rattle.test_lang.specs.Program.{Program}
use Rattle.test_lang.specs.Runs.{IsRun}
use Rattle.test_lang.specs.Values.{load_count}
use Rattle.signature_plan.specs.Outcomes.{outcome_of}
use Rattle.sim_core.proofs.DrawnPlays.{some_drawn_runs}
use Rattle.command_line.specs.declared.meaning.Settings.{Settings}
use Rattle.mtrace_app.specs.Counted.{AreCounted, AreCountedWithin}
use Rattle.mtrace_app.specs.Inputs.{AreRunsDrawn, setup_of}
use Rattle.mtrace_app.specs.Limits.{FitLimits}
use Rattle.mtrace_app.proofs.Meanings.{tallied_mean}

-- the drawn runs, and their counts
abbrev pub AreDrawnAndCounted : Settings → Program → ℕ → List (Outcome × ℕ) → Type 0
AreDrawnAndCounted s p count tally = (runs : List (List ℕ)) × AreRunsDrawn s p runs × AreCountedWithin p runs count tally

-- the pairs are the tally of the runs that the settings draw
pub record IsTallyOfDrawn (s : Settings) (p : Program) (pairs : List (Outcome × ℕ)) : Type 0 where
  pub runs : List (List ℕ)
  pub drawn : AreRunsDrawn s p runs
  pub each : AllByRecursion (IsRun p) runs
  pub counts : IsTally (map (outcome_of p) runs) pairs
  pub total : total_of pairs ≡ s.runs

-- what isn't said to be so isn't so
pub not_fit : (b : Bool) → b ≡ false → IsTrue b → ⊥
not_fit true e h = cc
not_fit false e h = cc

module _ (s : Settings) (p : Program) where
  -- runs that pass a limit are there, and needn't be counted
  pub passed : (tally : List (Outcome × ℕ)) → (FitLimits s.runs (load_count p) → ⊥) → AreDrawnAndCounted s p s.runs tally
  passed tally many =
      let drawn = some_drawn_runs (setup_of s p) s.gen_settings.seed s.runs in
      (drawn.0, drawn.1, record { number = sym drawn.1.number; counted = λ fit. absurd (many fit) })

  pub tallied : (pairs : List (Outcome × ℕ)) → IsTallyOfDrawn s p pairs → AreDrawnAndCounted s p s.runs pairs
  tallied pairs h = (
    h.runs,
    h.drawn,
    record {
      number = sym h.drawn.number;
      counted = λ fit. record { number = sym h.drawn.number; counts = h.counts; sum = h.total ∙ sym h.drawn.number; meant = tallied_mean p h.runs pairs h.each h.counts };
    },
  )
