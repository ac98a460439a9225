-- Histories that grow by batches.
use Rattle.std.proofs.Common.{◌≡◌, ◌≢◌, ℕ, List, [], ◌∷◌, ◌++◌, Bool, true, false, cond, eqb, eq-eqb, ne_eqb, refl, sym, ap, ◌∙◌, append_assoc, append-nil}
use Rattle.std.proofs.lemmas.List.{map-append}
use Rattle.tally.specs.declared.entered.Entered.{Entered}
use Rattle.tally.specs.declared.outcome.Outcome.{Outcome}
use Rattle.tally.specs.Histories.{entries, added_by, outcomes_in, BeginsWith}

cond-append : (b : Bool) (x : Outcome) (xs ys zs : List Outcome) → xs ≡ ys ++ zs → cond b (x ∷ xs) xs ≡ cond b (x ∷ ys) ys ++ zs
cond-append true x xs ys zs e = ap (λ (l : List Outcome). x ∷ l) e
cond-append false x xs ys zs e = e

pub added_by-append : (h g : List Entered) (k : ℕ) → added_by (h ++ g) k ≡ added_by h k ++ added_by g k
added_by-append [] g k = refl
added_by-append (e ∷ h) g k = cond-append (eqb e.pass k) e.outcome (added_by (h ++ g) k) (added_by h k) (added_by g k) (added_by-append h g k)

pub added_by-own : (k : ℕ) (xs : List Outcome) → added_by (entries k xs) k ≡ xs
added_by-own k [] = refl
added_by-own k (x ∷ xs) = rw (eq-eqb k k refl) (ap (λ (l : List Outcome). x ∷ l) (added_by-own k xs))

pub added_by-other : (j k : ℕ) (xs : List Outcome) → k ≢ j → added_by (entries k xs) j ≡ []
added_by-other j k [] ne = refl
added_by-other j k (x ∷ xs) ne = rw (ne_eqb k j ne) (added_by-other j k xs ne)

pub added_by-added : (h : List Entered) (k : ℕ) (xs : List Outcome) → added_by (h ++ entries k xs) k ≡ added_by h k ++ xs
added_by-added h k xs = added_by-append h (entries k xs) k ∙ ap (λ (l : List Outcome). added_by h k ++ l) (added_by-own k xs)

pub added_by-others : (h : List Entered) (j k : ℕ) (xs : List Outcome) → k ≢ j → added_by (h ++ entries k xs) j ≡ added_by h j
added_by-others h j k xs ne = added_by-append h (entries k xs) j ∙ ap (λ (l : List Outcome). added_by h j ++ l) (added_by-other j k xs ne) ∙ append-nil (added_by h j)

pub starts_more : (h g front : List Entered) → BeginsWith h front → BeginsWith (h ++ g) front
starts_more h g front s = (s.0 ++ g, ap (λ (l : List Entered). l ++ g) s.1 ∙ append_assoc front s.0 g)

pub starts_itself : (h : List Entered) → BeginsWith h h
starts_itself h = ([], sym (append-nil h))

outcomes_in-entries : (k : ℕ) (xs : List Outcome) → outcomes_in (entries k xs) ≡ xs
outcomes_in-entries k [] = refl
outcomes_in-entries k (x ∷ xs) = ap (λ (l : List Outcome). x ∷ l) (outcomes_in-entries k xs)

-- the outcomes of a history with a batch at its end
pub outcomes_in-added : (h : List Entered) (k : ℕ) (xs : List Outcome) → outcomes_in (h ++ entries k xs) ≡ outcomes_in h ++ xs
outcomes_in-added h k xs = map-append (λ (e : Entered). e.outcome) h (entries k xs) ∙ ap (λ (l : List Outcome). outcomes_in h ++ l) (outcomes_in-entries k xs)
