-- The runs of a runner, played one after another, and of all runners together.
use Rattle.std.proofs.Common.{◌≡◌, ◌∙◌, ℕ, zero, suc, ◌+◌, ◌<◌, ◌≤◌, List, [], ◌∷◌, ◌++◌, map, get_or, Some, sym, ap, arith, append_assoc, append-nil}
use Rattle.std.proofs.lemmas.List.{length-map}
use Rattle.std.proofs.lemmas.Option.{slice_get-get_or}
use Rattle.tally.specs.declared.entered.Entered.{Entered}
use Rattle.tally.specs.declared.outcome.Outcome.{Outcome}
use Rattle.tally.specs.Histories.{added_by, outcomes_in, StandsFor}
use Rattle.tally.specs.Tallies.{IsTally, occurrences}
use Rattle.tally.proofs.Shrinking.{total-tally}
use Rattle.test_lang.specs.Program.{IsWithinLimits}
use Rattle.signature_plan.specs.Outcomes.{outcome_of}
use Rattle.sim_core.specs.Drawn.{AreDrawnRuns, IsDrawnRun}
use Rattle.sim_core.specs.Setup.{run_after}
use Rattle.sim_core.proofs.DrawnPlays.{drawn_runs_are_runs, one_drawn_play, some_drawn_runs}
use Rattle.runner.specs.declared.job.Job.{Job}
use Rattle.runner.specs.Jobs.{IsTallyOfJob, setup_of}
use Rattle.runner.specs.Runners.{AreOutcomesOf, each_nth}
use Rattle.runner.proofs.EachNth.{each_nth-next, each_nth-past}
use Rattle.runner.proofs.SumsBelow.{sum_below-same}
use Rattle.runner.proofs.Together.{by_passes, by_runners}

-- Runner k comes to a run, and these are the outcomes of its runs before it.
abbrev pub HasPlayed : Job → ℕ → ℕ → ℕ → List Outcome → Type 0
HasPlayed job runners k run outcomes =
    (runs : List (List ℕ)) → AreDrawnRuns (setup_of job) job.seed job.runs runs → outcomes ++ map (outcome_of job.test.now) (each_nth runners run runs) ≡ map (outcome_of job.test.now) (each_nth runners k runs)

module _ (job : Job) where
  pub played-none : (runners k : ℕ) (outcomes : List Outcome) → outcomes ≡ [] → HasPlayed job runners k k outcomes
  played-none runners k outcomes none = λ runs drawn. ap (λ (l : List Outcome). l ++ map (outcome_of job.test.now) (each_nth runners k runs)) none

  -- the runs of a seed are drawn once
  same_run : (run : ℕ) (values others : List ℕ) → IsDrawnRun (setup_of job) job.seed run values → IsDrawnRun (setup_of job) job.seed run others → values ≡ others
  same_run run values others h k = h.gives ∙ ap (run_after (setup_of job)) (one_drawn_play (setup_of job) job.seed run h.steps k.steps h.is_drawn_play k.is_drawn_play) ∙ sym k.gives

  pub played-push : (runners k run : ℕ) (old new : List Outcome) (outcome : Outcome) (values : List ℕ) → 0 < runners → run < job.runs → HasPlayed job runners k run old
      → IsDrawnRun (setup_of job) job.seed run values → outcome ≡ outcome_of job.test.now values → new ≡ old ++ outcome ∷ [] → HasPlayed job runners k (run + runners) new
  played-push zero k run old new outcome values some low h drawn is grown = absurd (omega (arith, some))
  played-push (suc m) k run old new outcome values some low h drawn is grown = λ runs all.
      let number = all.number in
      let at = slice_get-get_or runs run [] (omega (arith, low, number)) in
      let same = same_run run (get_or runs run []) values (all.each run (get_or runs run []) at) drawn in
      let next = each_nth-next m run runs values (at ∙ ap Some same) in
      let f = outcome_of job.test.now in
      let rest = map f (each_nth (suc m) (run + suc m) runs) in
      ap (λ (l : List Outcome). l ++ rest) (grown ∙ ap (λ (x : Outcome). old ++ x ∷ []) is)
      ∙ append_assoc old (f values ∷ []) rest
      ∙ ap (λ (l : List (List ℕ)). old ++ map f l) (sym next)
      ∙ h runs all

  pub played-all : (runners k run : ℕ) (outcomes : List Outcome) → job.runs ≤ run → HasPlayed job runners k run outcomes → AreOutcomesOf job runners k outcomes
  played-all runners k run outcomes end h = λ runs all.
      let number = all.number in
      sym (append-nil outcomes) ∙ ap (λ (l : List (List ℕ)). outcomes ++ map (outcome_of job.test.now) l) (sym (each_nth-past runners run runs (omega (arith, number, end)))) ∙ h runs all

  -- all runs together
  same_often : (runners : ℕ) (runs : List (List ℕ)) (history : List Entered) (outcome : Outcome) → 0 < runners → AreDrawnRuns (setup_of job) job.seed job.runs runs
      → ((k : ℕ) → k < runners → AreOutcomesOf job runners k (added_by history k)) → ((k : ℕ) → runners ≤ k → added_by history k ≡ [])
      → occurrences (outcomes_in history) outcome ≡ occurrences (map (outcome_of job.test.now) runs) outcome
  same_often zero runs history outcome some all passes others = absurd (omega (arith, some))
  same_often (suc m) runs history outcome some all passes others =
      by_passes (suc m) history outcome others
      ∙ sum_below-same (suc m) (λ k. occurrences (added_by history k) outcome) (λ k. occurrences (map (outcome_of job.test.now) (each_nth (suc m) k runs)) outcome)
      (λ k low. ap (λ (l : List Outcome). occurrences l outcome) (passes k low runs all))
      ∙ by_runners (outcome_of job.test.now) m runs outcome

  pub tally_of_all : (runners : ℕ) (history : List Entered) (pairs : List (Outcome × ℕ)) → 0 < runners → IsWithinLimits job.test.now
      → ((k : ℕ) → k < runners → AreOutcomesOf job runners k (added_by history k)) → ((k : ℕ) → runners ≤ k → added_by history k ≡ [])
      → StandsFor pairs history → IsTallyOfJob job pairs
  tally_of_all runners history pairs some limits passes others stands =
      let drawn = some_drawn_runs (setup_of job) job.seed job.runs in
      let runs = drawn.0 in
      let counts : IsTally (map (outcome_of job.test.now) runs) pairs = record {
        counts = stands.counts;
        counted = λ outcome. stands.counted outcome ∙ same_often runners runs history outcome some drawn.1 passes others;
      } in
      record {
        runs = runs;
        drawn = drawn.1;
        each = drawn_runs_are_runs (setup_of job) job.seed job.runs runs limits drawn.1;
        counts = counts;
        total = total-tally (map (outcome_of job.test.now) runs) pairs counts ∙ length-map runs (outcome_of job.test.now) ∙ drawn.1.number;
      }
