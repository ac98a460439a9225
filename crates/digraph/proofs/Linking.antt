-- One key more keeps the links.
use Rattle.std.proofs.Common.{◌≡◌, ◌≢◌, ◌∙◌, ℕ, ◌+◌, ◌<◌, List, set, length, get_or, Some, refl, sym, subst, inl, inr, arith, get_or-set_other, get_or-set_same, length-set, ne_eqb}
use Rattle.std.proofs.lemmas.Bool.{cases_eq}
use Rattle.digraph.specs.Digraph.{IsLastBelow}
use Rattle.digraph.specs.KeyList.{IsLinked, place_of}
use Rattle.digraph.specs.declared.links.TheConstants.{NONE}
use Rattle.digraph.proofs.Last.{last-same, last-more, last-here}

module _ (count key : ℕ) (keys last previous : List ℕ) (l : IsLinked count keys last previous) (kind : key < length last) (room : count < length keys) where
  -- the keys with the new one
  after : ℕ → ℕ
  after k = get_or (set keys count key) k 0

  after-before : (k : ℕ) → k < count → after k ≡ get_or keys k 0
  unfolding after
  after-before k lt = get_or-set_other keys count k key 0 (λ same. omega (arith, lt, same))

  after-here : after count ≡ key
  unfolding after
  after-here = get_or-set_same keys count key 0 room

  -- a place is no link to nothing
  place-here : place_of count ≡ Some count
  place-here = let big : count ≢ NONE = (λ same. let few = l.few_keys in omega (arith, same, few, room)) in rw (ne_eqb count NONE big) refl

  lasts-more : (k : ℕ) → k < length last → IsLastBelow after k (count + 1) (place_of (get_or (set last key count) k 0))
  lasts-more k lt = elim (cases_eq k key) [
    | inl same ↦
        subst (λ (m : ℕ). IsLastBelow after m (count + 1) (place_of (get_or (set last key count) m 0))) (sym same)
        (subst (λ (x : ℕ). IsLastBelow after key (count + 1) (place_of x)) (sym (get_or-set_same last key count 0 kind))
        (subst (IsLastBelow after key (count + 1)) (sym place-here) (last-here after key count after-here)))
    | inr other ↦
        subst (λ (x : ℕ). IsLastBelow after k (count + 1) (place_of x)) (sym (get_or-set_other last key k count 0 other))
        (last-more after k count _ (λ e. other (sym e ∙ after-here)) (last-same (λ m. get_or keys m 0) after k count _ after-before (l.lasts k lt)))
  ]

  previous-more : (k : ℕ) → k < count + 1 → IsLastBelow after (after k) k (place_of (get_or (set previous count (get_or last key 0)) k 0))
  previous-more k lt = elim (cases_eq k count) [
    | inl same ↦
        subst (λ (m : ℕ). IsLastBelow after (after m) m (place_of (get_or (set previous count (get_or last key 0)) m 0))) (sym same)
        (subst (λ (x : ℕ). IsLastBelow after (after count) count (place_of x)) (sym (get_or-set_same previous count (get_or last key 0) 0 (rw l.same_room room)))
        (subst (λ (m : ℕ). IsLastBelow after m count (place_of (get_or last key 0))) (sym after-here)
        (last-same (λ m. get_or keys m 0) after key count _ after-before (l.lasts key kind))))
    | inr other ↦
        let below : k < count = omega (arith, lt, other) in
        subst (λ (x : ℕ). IsLastBelow after (after k) k (place_of x)) (sym (get_or-set_other previous count k (get_or last key 0) 0 other))
        (subst (λ (m : ℕ). IsLastBelow after m k (place_of (get_or previous k 0))) (sym (after-before k below))
        (last-same (λ m. get_or keys m 0) after _ k _ (λ m small. after-before m (omega (arith, small, below))) (l.previous_ones k below)))
  ]

  inside-more : (k : ℕ) → k < count + 1 → after k < length last
  inside-more k lt = elim (cases_eq k count) [
    | inl same ↦ subst (λ (m : ℕ). after m < length last) (sym same) (subst (λ (x : ℕ). x < length last) (sym after-here) kind)
    | inr other ↦
        let below : k < count = omega (arith, lt, other) in
        subst (λ (x : ℕ). x < length last) (sym (after-before k below)) (l.inside k below)
  ]

  pub linked-push : IsLinked (count + 1) (set keys count key) (set last key count) (set previous count (get_or last key 0))
  unfolding after
  linked-push = record {
    few_kinds = rw (length-set last key count) l.few_kinds;
    few_keys = rw (length-set keys count key) l.few_keys;
    same_room = length-set previous count (get_or last key 0) ∙ l.same_room ∙ sym (length-set keys count key);
    room = rw (length-set keys count key) (omega (arith, room));
    inside = rw (length-set last key count) inside-more;
    lasts = rw (length-set last key count) lasts-more;
    previous_ones = previous-more;
  }
