-- Counting runs one after another, as far as the limits go.
use Rattle.std.proofs.Common.{◌≡◌, ◌∙◌, ℕ, ◌+◌, ◌≤◌, List, [], ◌∷◌, ◌++◌, length, arith, take, drop, length-append, length-drop}
use Rattle.std.proofs.lemmas.List.{length-take}
use Rattle.tally.specs.declared.outcome.Outcome.{Outcome}
use Rattle.test_lang.specs.Program.{Program}
use Rattle.test_lang.specs.Runs.{IsRunOf}
use Rattle.test_lang.specs.Values.{load_count}
use Rattle.run_text.specs.Runs.{AreRunsOf}
use Rattle.run_count.specs.Counts.{AreCountedUpTo}
use Rattle.mtrace_app.specs.Counted.{AreCountedWithin}
use Rattle.mtrace_app.specs.Limits.{FitLimits}
use Rattle.mtrace_app.proofs.Meanings.{tallied_mean}

-- a list that was lent whole has the length of what came back
pub length_lent : (len : ℕ) (new old : List ℕ) → length new ≡ length old → len ≡ length old → length (take len (new ++ drop (length new) old)) ≡ length old
length_lent len new old same all = simp (length-take, length-append, length-drop) (omega (arith, same, all))

pub runs-push : (loads : ℕ) (runs : List (List ℕ)) (run : List ℕ) → AreRunsOf loads runs → IsRunOf loads run → AreRunsOf loads (runs ++ run ∷ [])
runs-push loads [] run each is = (is, tt)
runs-push loads (first ∷ runs) run each is = (each.0, runs-push loads runs run each.1 is)

pub fewer_fit : (n l : ℕ) → FitLimits (n + 1) l → FitLimits n l
fewer_fit n l h = (omega (arith, h.0), omega (arith, h.1))

-- what was counted up to so many runs is counted within the limits, where no more fit these
pub counted_within : (p : Program) (most : ℕ) (runs : List (List ℕ)) (count : ℕ) (pairs : List (Outcome × ℕ)) → (FitLimits count (load_count p) → count ≤ most) → AreCountedUpTo most p runs count pairs → AreCountedWithin p runs count pairs
counted_within p most runs count pairs fits h = record {
  number = h.number;
  counted = λ fit. record {
    number = h.number;
    counts = h.counts (fits fit);
    sum = h.sum (fits fit) ∙ h.number;
    meant = tallied_mean p runs pairs h.each (h.counts (fits fit));
  };
}
