-- Batches that are put, and lists that grow at their end.
use Rattle.std.proofs.Common.{◌≡◌, ◌≢◌, ◌⊎◌, ◌∙◌, ℕ, zero, suc, ◌+◌, ◌<◌, ◌≤◌, List, [], ◌∷◌, ◌++◌, map, length, Some, refl, sym, ap, subst, ⊎_elim, inl, inr, arith, append_assoc}
use Rattle.std.specs.Prelude.{slice_get, slice_index_or}
use Rattle.std.proofs.lemmas.Bool.{cases_eq}
use Rattle.std.proofs.lemmas.Option.{same_Some}
use Rattle.tally.specs.declared.entered.Entered.{Entered}
use Rattle.tally.specs.declared.outcome.Outcome.{Outcome}
use Rattle.tally.specs.Histories.{added_by, entry, entries}
use Rattle.turn_set.proofs.Histories.{added_by-added, added_by-others}
use Rattle.runner.specs.Runners.{PutFrom, batch_of}

-- what holds of each element and of a new last one holds of each
pub all_push : {A : Type 0} (P : ℕ → A → Type 0) (xs : List A) (x : A) → ((k : ℕ) (d : A) → k < length xs → P k (slice_index_or xs k d)) → P (length xs) x → (k : ℕ) (d : A) → k < length (xs ++ x ∷ []) → P k (slice_index_or (xs ++ x ∷ []) k d)
all_push P [] x all last zero d low = last
all_push P [] x all last (suc k) d low = absurd (omega (arith, low))
all_push P (y ∷ ys) x all last zero d low = all zero d (omega arith)
all_push P (y ∷ ys) x all last (suc k) d low = all_push (λ j. P (suc j)) ys x (λ j e under. all (suc j) e (omega (arith, under))) last k d (omega (arith, low))

-- an element of two lists is one of the first or of the second
get_both : {A : Type 0} (xs ys : List A) (i : ℕ) (a : A) → slice_get (xs ++ ys) i ≡ Some a → (slice_get xs i ≡ Some a) ⊎ ((j : ℕ) × (slice_get ys j ≡ Some a))
get_both [] ys i a e = inr (i, e)
get_both (x ∷ xs) ys zero a e = inl e
get_both (x ∷ xs) ys (suc i) a e = get_both xs ys i a e

-- one behind the first is one of the second
pub get_behind : {A : Type 0} (xs ys : List A) (i : ℕ) (a : A) → length xs ≤ i → slice_get (xs ++ ys) i ≡ Some a → (j : ℕ) × (slice_get ys j ≡ Some a)
get_behind [] ys i a behind e = (i, e)
get_behind (x ∷ xs) ys zero a behind e = absurd (omega (arith, behind))
get_behind (x ∷ xs) ys (suc i) a behind e = get_behind xs ys i a (omega (arith, behind)) e

entries_at : (number : ℕ) (batch : List Outcome) (j : ℕ) (e : Entered) → slice_get (entries number batch) j ≡ Some e → number ≡ e.pass
entries_at number [] j e at = absurd cc
entries_at number (x ∷ xs) zero e at = ap (λ (f : Entered). f.pass) (same_Some (entry number x) e at)
entries_at number (x ∷ xs) (suc j) e at = entries_at number xs j e at

some_entries : (number : ℕ) (batch : List Outcome) (j : ℕ) (e : Entered) → slice_get (entries number batch) j ≡ Some e → batch ≢ []
some_entries number [] j e at = absurd cc
some_entries number (x ∷ xs) j e at = λ none. absurd (cc none)

-- one more batch is put
pub put_more : (history : List Entered) (batches : List (List Outcome)) (number from : ℕ) (batch : List Outcome) (before after : List Entered) → from ≡ number + 1 → batch_of batches number ≡ batch → after ≡ before ++ entries number batch
    → PutFrom history batches from before → PutFrom history batches number after
put_more history batches number from batch before after next left put p = record {
  rest = p.rest ++ entries number batch;
  is = put ∙ ap (λ (l : List Entered). l ++ entries number batch) p.is ∙ append_assoc history p.rest (entries number batch);
  above = λ k le. ⊎_elim
      (λ (e : k ≡ number).
      subst (λ (n : ℕ). added_by (p.rest ++ entries number batch) n ≡ batch_of batches n) (sym e)
      (added_by-added p.rest number batch ∙ ap (λ (l : List Outcome). l ++ batch) (p.below number (omega (arith, next))) ∙ sym left))
      (λ (other : k ≡ number → ⊥). added_by-others p.rest k number batch (λ e. other (sym e)) ∙ p.above k (omega (arith, next, le, other)))
      (cases_eq k number);
  below = λ k low. added_by-others p.rest k number batch (λ e. omega (arith, e, low)) ∙ p.below k (omega (arith, next, low));
  some_left = λ i e at. ⊎_elim
      (λ (t : slice_get p.rest i ≡ Some e). p.some_left i e t)
      (λ (t : (j : ℕ) × (slice_get (entries number batch) j ≡ Some e)).
      λ none. some_entries number batch t.0 e t.1 (sym left ∙ ap (batch_of batches) (entries_at number batch t.0 e t.1) ∙ none))
      (get_both p.rest (entries number batch) i e at);
}

-- an element between others, by a value of it
pub map_between : {A : Type 0} {B : Type 0} (f : A → B) (xs : List A) (x : A) (ys : List B) → map f xs ++ f x ∷ ys ≡ map f (xs ++ x ∷ []) ++ ys
map_between f [] x ys = refl
map_between f (y ∷ xs) x ys = ap (λ l. f y ∷ l) (map_between f xs x ys)

pub get_between : {A : Type 0} {B : Type 0} (f : A → B) (xs : List A) (x : A) (ys : List B) (d : B) → slice_index_or (map f (xs ++ x ∷ []) ++ ys) (length xs) d ≡ f x
get_between f [] x ys d = refl
get_between f (y ∷ xs) x ys d = get_between f xs x ys d
