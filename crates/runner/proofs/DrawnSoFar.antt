-- Runs that are drawn and counted one after another.
use Rattle.std.proofs.Common.{◌≡◌, ◌∙◌, ℕ, ◌+◌, List, [], ◌∷◌, ◌++◌, map, length, take, drop, length-append, length-drop, arith, sym, ap, subst}
use Rattle.std.proofs.lemmas.List.{map-append, length-take}
use Rattle.tally.specs.declared.outcome.Outcome.{Outcome}
use Rattle.tally.specs.Counting.{Counting, HasCounted}
use Rattle.tally.specs.Tallies.{IsTally, total_of}
use Rattle.test_lang.specs.Program.{Program, IsWithinLimits}
use Rattle.test_lang.specs.Values.{load_count}
use Rattle.test_lang.specs.declared.step.Step.{Step}
use Rattle.test_lang.proofs.PlayLaws.GivenRuns.{play_gives_run}
use Rattle.signature_plan.specs.Outcomes.{outcome_of}
use Rattle.sim_core.specs.Drawn.{AreDrawnRuns, IsDrawnPlay, IsDrawnRun}
use Rattle.sim_core.specs.Setup.{Setup, run_after}
use Rattle.sim_core.proofs.DrawnPlays.{drawn_runs-none, drawn_runs-push, drawn_runs_are_runs}
use Rattle.runner.specs.declared.job.Job.{Job}
use Rattle.runner.specs.Jobs.{IsTallyOfJob, setup_of}

-- what was played on a machine that was brought back is played on the machine
pub drawn_again : (setup other : Setup) (seed run : ℕ) (Stands : List Step → Type 0) → other ≡ setup → (steps : List Step) × IsDrawnPlay other seed run steps × Stands steps → (steps : List Step) × IsDrawnPlay setup seed run steps × Stands steps
drawn_again setup other seed run Stands same (steps, play, stands) = (steps, subst (λ (s : Setup). IsDrawnPlay s seed run steps) same play, stands)

-- a machine that stands behind a drawn play gives the drawn run
pub drawn_now : (setup before now : Setup) (seed run : ℕ) (Stands : List Step → Type 0) (values : List ℕ) → before ≡ setup → now ≡ before → (steps : List Step) × IsDrawnPlay before seed run steps × Stands steps
    → ((steps : List Step) → Stands steps → values ≡ run_after now steps) → IsDrawnRun setup seed run values
drawn_now setup before now seed run Stands values was same (steps, play, stands) shows = record {
  steps = steps;
  is_drawn_play = subst (λ (s : Setup). IsDrawnPlay s seed run steps) was play;
  gives = shows steps stands ∙ ap (λ (s : Setup). run_after s steps) (same ∙ was);
}

-- which has a value for each load
pub drawn_length : (setup : Setup) (seed run : ℕ) (values : List ℕ) → IsWithinLimits setup.test → IsDrawnRun setup seed run values → length values ≡ load_count setup.test
drawn_length setup seed run values limits drawn = ap (length {A = ℕ}) drawn.gives ∙ (play_gives_run setup.test limits setup.target setup.fault drawn.steps).whole

-- a list that was lent whole has the length of what came back
pub length_lent : (len : ℕ) (new old : List ℕ) → length new ≡ length old → len ≡ length old → length (take len (new ++ drop (length new) old)) ≡ length old
length_lent len new old same all = simp (length-take, length-append, length-drop) (omega (arith, same, all))

-- So many runs were drawn, and the counter has counted their outcomes.
pub record AreCountedSoFar (setup : Setup) (seed count : ℕ) (counter : Counting) : Type 0 where
  pub runs : List (List ℕ)
  pub drawn : AreDrawnRuns setup seed count runs
  pub counted : HasCounted (map (outcome_of setup.test) runs) counter
  pub total : total_of counter.pairs ≡ count

module _ (setup : Setup) (seed : ℕ) where
  pub so_far-none : (counter : Counting) → HasCounted [] counter → counter.pairs ≡ [] → AreCountedSoFar setup seed 0 counter
  so_far-none counter none empty = record { runs = []; drawn = drawn_runs-none setup seed; counted = none; total = ap total_of empty }

  pub so_far-push : (count : ℕ) (p : Program) (values : List ℕ) (old new : Counting) → AreCountedSoFar setup seed count old → p ≡ setup.test → IsDrawnRun setup seed count values
      → ((outcomes : List Outcome) → HasCounted outcomes old → HasCounted (outcomes ++ outcome_of p values ∷ []) new) → total_of new.pairs ≡ total_of old.pairs + 1
      → AreCountedSoFar setup seed (count + 1) new
  so_far-push count p values old new h same drawn counts totals = record {
    runs = h.runs ++ values ∷ [];
    drawn = drawn_runs-push setup seed count h.runs values h.drawn drawn;
    counted = subst (λ (outcomes : List Outcome). HasCounted outcomes new) (sym (map-append (outcome_of setup.test) h.runs (values ∷ [])))
        (subst (λ (q : Program). HasCounted (map (outcome_of setup.test) h.runs ++ outcome_of q values ∷ []) new) same (counts (map (outcome_of setup.test) h.runs) h.counted));
    total = totals ∙ ap (λ (n : ℕ). n + 1) h.total;
  }

pub tally_of_job : (job : Job) (count : ℕ) (counter : Counting) (pairs : List (Outcome × ℕ)) → IsWithinLimits job.test.now → AreCountedSoFar (setup_of job) job.seed count counter → count ≡ job.runs
    → ((outcomes : List Outcome) → HasCounted outcomes counter → IsTally outcomes pairs) → pairs ≡ counter.pairs → IsTallyOfJob job pairs
tally_of_job job count counter pairs limits h all tallies same =
    let drawn : AreDrawnRuns (setup_of job) job.seed job.runs h.runs = subst (λ (n : ℕ). AreDrawnRuns (setup_of job) job.seed n h.runs) all h.drawn in
    record {
      runs = h.runs;
      drawn = drawn;
      each = drawn_runs_are_runs (setup_of job) job.seed job.runs h.runs limits drawn;
      counts = tallies (map (outcome_of job.test.now) h.runs) h.counted;
      total = ap total_of same ∙ h.total ∙ all;
    }
