-- Races that are made, written and counted one after another.
use Rattle.std.proofs.Common.{◌≡◌, ◌∙◌, ℕ, ◌+◌, ◌*◌, ◌≤◌, List, [], ◌∷◌, ◌++◌, map, refl, sym, ap, subst, arith}
use Rattle.std.proofs.lemmas.List.{map-append}
use Rattle.std.proofs.Math.Nat.{mul-le-mul_right}
use Rattle.tally.specs.declared.outcome.Outcome.{Outcome}
use Rattle.tally.specs.Counting.{Counting, HasCounted}
use Rattle.tally.specs.Tallies.{IsTally, total_of}
use Rattle.test_lang.specs.Program.{Program}
use Rattle.test_lang.specs.Runs.{IsRunOf}
use Rattle.test_lang.specs.Values.{load_count}
use Rattle.test_lang.specs.Text.Line.{closed}
use Rattle.test_lang.proofs.TextLemmas.Lines.{closed-append}
use Rattle.run_text.specs.Runs.{AreRunsOf, line_of_run}
use Rattle.shared_words.specs.Interleavings.{IsInterleaved}
use Rattle.signature_plan.specs.Outcomes.{outcome_of}
use Rattle.mtrace_app.specs.Counted.{AreCounted}
use Rattle.mtrace_app.specs.Inputs.{AreRaces}
use Rattle.mtrace_app.specs.Limits.{FitLimits}
use Rattle.mtrace_app.specs.Report.{run_lines}
use Rattle.mtrace_app.proofs.Meanings.{tallied_mean}
use Rattle.mtrace_app.proofs.Races.{no_races, races_push}
use Rattle.mtrace_app.proofs.RunsSoFar.{runs-push}

-- So many races were made, their lines were written, and the counter has counted their outcomes.
pub record AreRacedSoFar (p : Program) (count : ℕ) (counter : Counting) (lines : List ℕ) : Type 0 where
  pub runs : List (List ℕ)
  pub races : AreRaces p count runs
  pub each : AreRunsOf (load_count p) runs
  pub written : lines ≡ run_lines runs
  pub counted : HasCounted (map (outcome_of p) runs) counter
  pub total : total_of counter.pairs ≡ count

-- fewer runs fit too
pub fit_fewer : (count all loads : ℕ) → count ≤ all → FitLimits all loads → FitLimits count loads
fit_fewer count all loads fewer fit =
    let values : count * loads ≤ all * loads = mul-le-mul_right loads fewer in
    (omega (arith, fewer, fit.0), omega (arith, values, fit.1))

module _ (p : Program) where
  pub raced-none : (counter : Counting) → HasCounted [] counter → counter.pairs ≡ [] → AreRacedSoFar p 0 counter []
  raced-none counter none empty = record {
    runs = [];
    races = no_races p;
    each = tt;
    written = refl;
    counted = none;
    total = ap total_of empty;
  }

  lines-push : (runs : List (List ℕ)) (run lines line : List ℕ) → lines ≡ run_lines runs → line ≡ closed (line_of_run run ∷ []) → lines ++ line ≡ run_lines (runs ++ run ∷ [])
  lines-push runs run lines line before more =
      ap (λ (t : List ℕ). t ++ line) before ∙ ap (λ (t : List ℕ). run_lines runs ++ t) more ∙ sym (closed-append (map line_of_run runs) (line_of_run run ∷ []))
      ∙ ap closed (sym (map-append line_of_run runs (run ∷ [])))

  pub raced-push : (count : ℕ) (q : Program) (run lines line : List ℕ) (old new : Counting) → AreRacedSoFar p count old lines → q ≡ p → IsInterleaved p run → IsRunOf (load_count p) run → line ≡ closed (line_of_run run ∷ [])
      → ((outcomes : List Outcome) → HasCounted outcomes old → HasCounted (outcomes ++ outcome_of q run ∷ []) new) → total_of new.pairs ≡ total_of old.pairs + 1
      → AreRacedSoFar p (count + 1) new (lines ++ line)
  raced-push count q run lines line old new h same race is_run its_line counts totals = record {
    runs = h.runs ++ run ∷ [];
    races = races_push p count h.runs run h.races race;
    each = runs-push (load_count p) h.runs run h.each is_run;
    written = lines-push h.runs run lines line h.written its_line;
    counted = subst (λ (outcomes : List Outcome). HasCounted outcomes new) (sym (map-append (outcome_of p) h.runs (run ∷ [])))
        (subst (λ (t : Program). HasCounted (map (outcome_of p) h.runs ++ outcome_of t run ∷ []) new) same (counts (map (outcome_of p) h.runs) h.counted));
    total = totals ∙ ap (λ (n : ℕ). n + 1) h.total;
  }

  -- what was raced in all, with the tally of the counter
  pub raced-all : (count all : ℕ) (counter : Counting) (lines : List ℕ) (pairs : List (Outcome × ℕ)) → AreRacedSoFar p count counter lines → count ≡ all → ((outcomes : List Outcome) → HasCounted outcomes counter → IsTally outcomes pairs) → pairs ≡ counter.pairs
      → (runs : List (List ℕ)) × AreRaces p all runs × AreCounted p runs all pairs × (lines ≡ run_lines runs)
  raced-all count all counter lines pairs h end tallies same =
      let races = subst (λ (n : ℕ). AreRaces p n h.runs) end h.races in
      let counts = tallies (map (outcome_of p) h.runs) h.counted in (
        h.runs,
        races,
        record {
          number = sym races.number;
          counts = counts;
          sum = ap total_of same ∙ h.total ∙ end ∙ sym races.number;
          meant = tallied_mean p h.runs pairs h.each counts;
        },
        h.written,
      )
