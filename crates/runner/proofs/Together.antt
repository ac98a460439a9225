-- The passes of a history, and the runners of a list, together have each outcome as often as the whole.
use Rattle.std.proofs.Common.{◌≡◌, ◌∙◌, ℕ, suc, ◌+◌, ◌<◌, ◌≤◌, List, [], ◌∷◌, map, Bool, true, false, cond, refl, sym, ap, arith, ⊎_elim}
use Rattle.std.specs.Prelude.{◌==◌}
use Rattle.std.proofs.lemmas.Bool.{cases_lt, eq-eqb}
use Rattle.std.proofs.lemmas.List.Sums.{sum_by-append}
use Rattle.tally.specs.declared.entered.Entered.{Entered}
use Rattle.tally.specs.declared.outcome.Outcome.{Outcome}
use Rattle.tally.specs.Histories.{added_by, outcomes_in}
use Rattle.tally.specs.Outcomes.{outcome_eq}
use Rattle.tally.specs.Tallies.{occurrences}
use Rattle.runner.specs.Runners.{each_nth}
use Rattle.runner.proofs.SumsBelow.{sum_below, sum_below-add, sum_below-first, sum_below-none, sum_below-one, sum_below-same}

-- how often an outcome stands at the front of a list
abbrev once : Outcome → Outcome → ℕ
once outcome x = cond (outcome_eq outcome x) 1 0

occurrences-more : (outcome x : Outcome) (xs : List Outcome) → occurrences (x ∷ xs) outcome ≡ once outcome x + occurrences xs outcome
occurrences-more outcome x xs = let e = sum_by-append (once outcome) (x ∷ []) xs in omega (arith, e)

-- ---- by passes

added_by-more : (e : Entered) (history : List Entered) (outcome : Outcome) (k : ℕ) → occurrences (added_by (e ∷ history) k) outcome ≡ occurrences (added_by history k) outcome + cond (e.pass == k) (once outcome e.outcome) 0
added_by-more e history outcome k = at (e.pass == k) where
  at : (b : Bool) → occurrences (cond b (e.outcome ∷ added_by history k) (added_by history k)) outcome ≡ occurrences (added_by history k) outcome + cond b (once outcome e.outcome) 0
  at true = let more = occurrences-more outcome e.outcome (added_by history k) in omega (arith, more)
  at false = omega arith

-- an entry is of one of the passes, where no other has any
in_range : (n : ℕ) (e : Entered) (history : List Entered) → ((k : ℕ) → n ≤ k → added_by (e ∷ history) k ≡ []) → e.pass < n
in_range n e history others = ⊎_elim
    (λ (below : e.pass < n). below)
    (λ (above : n ≤ e.pass).
    let some : added_by (e ∷ history) e.pass ≡ e.outcome ∷ added_by history e.pass = ap (λ (b : Bool). cond b (e.outcome ∷ added_by history e.pass) (added_by history e.pass)) (eq-eqb e.pass e.pass refl) in
    let none = others e.pass above in
    absurd (cc (some, none)))
    (cases_lt e.pass n)

none_before : (e : Entered) (history : List Entered) (k : ℕ) → added_by (e ∷ history) k ≡ [] → added_by history k ≡ []
none_before e history k none = at (e.pass == k) none where
  at : (b : Bool) → cond b (e.outcome ∷ added_by history k) (added_by history k) ≡ [] → added_by history k ≡ []
  at true e = absurd cc
  at false e = e

pub by_passes : (n : ℕ) (history : List Entered) (outcome : Outcome) → ((k : ℕ) → n ≤ k → added_by history k ≡ []) → occurrences (outcomes_in history) outcome ≡ sum_below n (λ k. occurrences (added_by history k) outcome)
by_passes n [] outcome others = sym (sum_below-none n (λ k. 0) (λ k below. refl))
by_passes n (e ∷ history) outcome others =
    let more = occurrences-more outcome e.outcome (outcomes_in history) in
    let before = by_passes n history outcome (λ k above. none_before e history k (others k above)) in
    let one = sum_below-one n e.pass (once outcome e.outcome) (in_range n e history others) in
    let parts =
    sum_below-same n (λ k. occurrences (added_by (e ∷ history) k) outcome) (λ k. occurrences (added_by history k) outcome + cond (e.pass == k) (once outcome e.outcome) 0) (λ k below. added_by-more e history outcome k)
    ∙ sum_below-add n (λ k. occurrences (added_by history k) outcome) (λ k. cond (e.pass == k) (once outcome e.outcome) 0) in
    omega (arith, more, before, one, parts)

-- ---- by runners

module _ {X : Type 0} (outcome_at : X → Outcome) where
  pub by_runners : (m : ℕ) (xs : List X) (outcome : Outcome) → sum_below (suc m) (λ k. occurrences (map outcome_at (each_nth (suc m) k xs)) outcome) ≡ occurrences (map outcome_at xs) outcome
  by_runners m [] outcome = sum_below-none (suc m) (λ k. 0) (λ k below. refl)
  by_runners m (x ∷ xs) outcome =
      let first = sum_below-first m (λ k. occurrences (map outcome_at (each_nth (suc m) k (x ∷ xs))) outcome) in
      let before = by_runners m xs outcome in
      let own = occurrences-more outcome (outcome_at x) (map outcome_at (each_nth (suc m) m xs)) in
      let all = occurrences-more outcome (outcome_at x) (map outcome_at xs) in
      omega (arith, first, before, own, all)
