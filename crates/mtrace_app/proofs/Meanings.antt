-- Each outcome of the tally of runs is that of one of them, and each signature means one.
use Rattle.std.proofs.Common.{◌≡◌, ℕ, ◌+◌, ◌≤◌, List, [], ◌∷◌, map, Bool, true, false, cond, All, refl, sym, arith}
use Rattle.std.specs.Prelude.{Option, Some, None, unwrap_or}
use Rattle.std.specs.List.{AllByRecursion}
use Rattle.std.specs.Map.{keys_of, values_of, lookup}
use Rattle.std.specs.Option.{option_map}
use Rattle.std.proofs.lemmas.List.Elements.{All-head, All-tail}
use Rattle.std.proofs.lemmas.List.Sums.{sum_by-append}
use Rattle.tally.specs.declared.outcome.Outcome.{Outcome}
use Rattle.tally.specs.declared.outcome.Outcome.TheVariants.{Inside, Outside}
use Rattle.tally.specs.Outcomes.{outcome_eq}
use Rattle.tally.specs.OutcomeLaws.{outcome_eq_decides}
use Rattle.tally.specs.Tallies.{IsTally, count_of, occurrences}
use Rattle.test_lang.specs.Program.{Program}
use Rattle.test_lang.specs.Runs.{first_outside, outside_of, value_read, IsRunOf}
use Rattle.test_lang.specs.Signatures.{Means}
use Rattle.test_lang.specs.Values.{load_count}
use Rattle.run_text.specs.Runs.{AreRunsOf}
use Rattle.signature_plan.specs.Outcomes.{outcome_by, outcome_of}
use Rattle.verdict_report.specs.Lines.{signatures}
use Rattle.mtrace_app.specs.Counted.{AreMeant}

-- ---- the outcomes that were counted are outcomes of runs

-- a run of which this holds, and which has the outcome
abbrev pub RunWith : (List ℕ → Type 0) → Program → Outcome → Type 0
RunWith P p outcome = (run : List ℕ) × P run × (outcome_of p run ≡ outcome)

module _ (P : List ℕ → Type 0) (p : Program) where
  this_or_later : (outcome : Outcome) (run : List ℕ) (b : Bool) (later : ℕ) → outcome_eq outcome (outcome_of p run) ≡ b → P run → 1 ≤ cond b 1 0 + later → (1 ≤ later → RunWith P p outcome) → RunWith P p outcome
  this_or_later outcome run true later e is_run some more = (run, is_run, sym ((outcome_eq_decides outcome (outcome_of p run)).0 e))
  this_or_later outcome run false later e is_run some more = more (omega (arith, some))

  run_with : (outcome : Outcome) (runs : List (List ℕ)) → AllByRecursion P runs → 1 ≤ occurrences (map (outcome_of p) runs) outcome → RunWith P p outcome
  run_with outcome [] each some = absurd (omega (arith, some))
  run_with outcome (run ∷ runs) each some =
      this_or_later outcome run (outcome_eq outcome (outcome_of p run)) (occurrences (map (outcome_of p) runs) outcome) refl each.0
      (omega (arith, some, sum_by-append (λ x. cond (outcome_eq outcome x) 1 0) (outcome_of p run ∷ []) (map (outcome_of p) runs))) (run_with outcome runs each.1)

-- ---- a signature that is a run's outcome means it

none_outside : (p : Program) (run : List ℕ) (found : Option ℕ) → option_map {U = ℕ × ℕ} (λ load. (load, value_read p run load)) found ≡ None → found ≡ None
none_outside p run None e = refl
none_outside p run (Some load) e = cc

pub means_by : (p : Program) (run words : List ℕ) (found : Option (ℕ × ℕ)) → IsRunOf (load_count p) run → outside_of p run ≡ found → outcome_by p run found ≡ Inside words → Means p words run
means_by p run words None is_run none e = record {
  inside = record { is_run = is_run; none_outside = none_outside p run (first_outside p run) none };
  words_are = cc;
}
means_by p run words (Some load) is_run some e = absurd cc

-- ---- each outcome of a tally was counted at least once

abbrev AllCounted : List (Outcome × ℕ) → List Outcome → Type 0
AllCounted pairs outcomes = AllByRecursion (λ outcome. 1 ≤ count_of pairs outcome) outcomes

first_or_later : (b : Bool) (first : ℕ) (later : Option ℕ) → 1 ≤ first → 1 ≤ unwrap_or later 0 → 1 ≤ unwrap_or (cond b (Some first) later) 0
first_or_later true first later f l = f
first_or_later false first later f l = l

counted_behind : (pair : Outcome × ℕ) (pairs : List (Outcome × ℕ)) (outcomes : List Outcome) → 1 ≤ pair.1 → AllCounted pairs outcomes → AllCounted (pair ∷ pairs) outcomes
counted_behind pair pairs [] some h = tt
counted_behind pair pairs (outcome ∷ more) some h = (first_or_later (outcome_eq outcome pair.0) pair.1 (lookup (outcome_eq outcome) pairs) some h.0, counted_behind pair pairs more some h.1)

here_counts : (b : Bool) (first : ℕ) (later : Option ℕ) → b ≡ true → 1 ≤ first → 1 ≤ unwrap_or (cond b (Some first) later) 0
here_counts true first later e f = f
here_counts false first later e f = cc

all_counted : (pairs : List (Outcome × ℕ)) → All (λ count. 1 ≤ count) (values_of pairs) → AllCounted pairs (keys_of pairs)
all_counted [] h = tt
all_counted (pair ∷ pairs) h =
    let some = All-head (λ count. 1 ≤ count) pair.1 (values_of pairs) h in (
      here_counts (outcome_eq pair.0 pair.0) pair.1 (lookup (outcome_eq pair.0) pairs) ((outcome_eq_decides pair.0 pair.0).1 refl) some,
      counted_behind pair pairs (keys_of pairs) some (all_counted pairs (All-tail (λ count. 1 ≤ count) pair.1 (values_of pairs) h)),
    )

-- ---- all together

abbrev pub AreOutcomes : (List ℕ → Type 0) → Program → List Outcome → Type 0
AreOutcomes P p outcomes = AllByRecursion (RunWith P p) outcomes

outcomes_of : (P : List ℕ → Type 0) (p : Program) (runs : List (List ℕ)) (pairs : List (Outcome × ℕ)) (outcomes : List Outcome) → AllByRecursion P runs → IsTally (map (outcome_of p) runs) pairs → AllCounted pairs outcomes → AreOutcomes P p outcomes
outcomes_of P p runs pairs [] each tally h = tt
outcomes_of P p runs pairs (outcome ∷ more) each tally h =
    let here = h.0 in
    let same = tally.counted outcome in
    (run_with P p outcome runs each (omega (arith, here, same)), outcomes_of P p runs pairs more each tally h.1)

pub tallied_outcomes : (P : List ℕ → Type 0) (p : Program) (runs : List (List ℕ)) (pairs : List (Outcome × ℕ)) → AllByRecursion P runs → IsTally (map (outcome_of p) runs) pairs → AreOutcomes P p (keys_of pairs)
tallied_outcomes P p runs pairs each tally = outcomes_of P p runs pairs (keys_of pairs) each tally (all_counted pairs tally.counts.positive)

meant_by : (p : Program) (pairs : List (Outcome × ℕ)) → AreOutcomes (IsRunOf (load_count p)) p (keys_of pairs) → AreMeant p (signatures pairs)
meant_by p [] h = tt
meant_by p ((Inside words, count) ∷ more) h =
    let run = h.0.0 in
    ((run, means_by p run words (outside_of p run) h.0.1 refl h.0.2), meant_by p more h.1)
meant_by p ((Outside node value, count) ∷ more) h = meant_by p more h.1

pub tallied_mean : (p : Program) (runs : List (List ℕ)) (pairs : List (Outcome × ℕ)) → AreRunsOf (load_count p) runs → IsTally (map (outcome_of p) runs) pairs → AreMeant p (signatures pairs)
tallied_mean p runs pairs each tally = meant_by p pairs (tallied_outcomes (IsRunOf (load_count p)) p runs pairs each tally)
