-- Passes that are dealt, and passes that are gathered.
use Rattle.std.proofs.Common.{◌≡◌, ◌≢◌, ◌⊎◌, ℕ, zero, suc, pred, ◌<◌, ◌≤◌, List, [], ◌∷◌, ◌++◌, length, Option, Some, None, false, true≢false, refl, sym, ap, ◌∙◌, subst, ⊎_elim, inl, inr, arith, length-append}
use Rattle.std.specs.Prelude.{slice_get, slice_index_or, is_some, unwrap_or}
use Rattle.std.specs.List.{remove}
use mathlib.Core.Option.{some}
use lib.ListN.{get_elem?}
use Rattle.atomic_table.proofs.Lists.{at_longer}
use Rattle.atomic_table.specs.Seated.{TableId}
use Rattle.turn_set.specs.declared.rule.View.{View}
use Rattle.turn_set.specs.declared.rule.Part.{Part}
use Rattle.tally.specs.declared.entered.Entered.{Entered}
use Rattle.tally.specs.Histories.{added_by, BeginsWith}
use Rattle.turn_set.specs.Rule.{keeper_after, HasEach, IsHistoryOf}
use Rattle.turn_set.specs.Steps.{own}
use Rattle.turn_set.specs.Passes.{SetIdentity, PassState, pass_state, fresh, fresh_first, fresh_others, AreAllOf, IsPassOf, IsFresh, HasTakenIn, part_of}

module _ {A : Type 0} where
  pub Some-same : (a b : A) → Some a ≡ Some b → a ≡ b
  Some-same a b e = ap (λ (o : Option A). unwrap_or o b) e

  pub None-not : (a : A) → None ≡ Some a → ⊥
  None-not a e = true≢false (sym (ap (λ (o : Option A). is_some o) e))

  get_new : (l : List A) (a b : A) (j : ℕ) → slice_get (l ++ a ∷ []) j ≡ Some b → (slice_get l j ≡ Some b) ⊎ ((length l ≡ j) × (a ≡ b))
  get_new [] a b zero e = inr (refl, Some-same a b e)
  get_new [] a b (suc j) e = absurd (None-not b e)
  get_new (x ∷ xs) a b zero e = inl e
  get_new (x ∷ xs) a b (suc j) e = ⊎_elim (λ t. inl t) (λ t. inr (ap suc t.0, t.1)) (get_new xs a b j e)

  pub get_within : (l : List A) (k : ℕ) → k < length l → (a : A) × (slice_get l k ≡ Some a)
  get_within [] k h = absurd (omega (arith, h))
  get_within (x ∷ xs) zero h = (x, refl)
  get_within (x ∷ xs) (suc k) h = get_within xs k (omega (arith, h))

  at_there : (l m : List A) (a : A) → get_elem? (l ++ a ∷ m) (length l) ≡ some a
  at_there [] m a = refl
  at_there (x ∷ xs) m a = at_there xs m a

-- an element, by an index that is within
pub get_at : {A : Type 0} (l : List A) (k : ℕ) (d : A) → k < length l → slice_get l k ≡ Some (slice_index_or l k d)
get_at [] k d low = absurd (omega (arith, low))
get_at (x ∷ xs) zero d low = refl
get_at (x ∷ xs) (suc k) d low = get_at xs k d (omega (arith, low))

pub at_got : {A : Type 0} (l : List A) (k : ℕ) (a d : A) → slice_get l k ≡ Some a → (k < length l) × (slice_index_or l k d ≡ a)
at_got [] k a d e = absurd (None-not a e)
at_got (x ∷ xs) zero a d e = (omega arith, Some-same x a e)
at_got (x ∷ xs) (suc k) a d e = let h = at_got xs k a d e in ((let low = h.0 in omega (arith, low)), h.1)

pub length_others : (z : TableId) (n : ℕ) → length (fresh_others z n) ≡ n
length_others z zero = refl
length_others z (suc n) = length-append (fresh_others z n) (fresh z (suc n) ∷ []) ∙ (let h = length_others z n in omega (arith, h))

others_at : (z : TableId) (n j : ℕ) (p : PassState) → slice_get (fresh_others z n) j ≡ Some p → fresh z (suc j) ≡ p
others_at z zero j p e = absurd (None-not p e)
others_at z (suc n) j p e =
    ⊎_elim
    (λ t. others_at z n j p t)
    (λ t. ap (λ (k : ℕ). fresh z (suc k)) (sym t.0 ∙ length_others z n) ∙ t.1)
    (get_new (fresh_others z n) (fresh z (suc n)) p j e)

module _ (w : SetIdentity) (some_pass : 0 < w.passes) where
  abbrev all : List PassState
  all = fresh_first w ∷ fresh_others w.table (pred w.passes)

  each : (k : ℕ) (p : PassState) → slice_get all k ≡ Some p → (p.number ≡ k) × IsPassOf w p × IsFresh p
  each zero p e = subst (λ (q : PassState). (q.number ≡ 0) × IsPassOf w q × IsFresh q) (Some-same (fresh_first w) p e)
      (refl, record { same = refl; first = λ _. refl; other = λ ne. absurd (ne refl) }, record { list = refl; front = refl; turns = refl; busy = refl })
  each (suc j) p e = subst (λ (q : PassState). (q.number ≡ suc j) × IsPassOf w q × IsFresh q) (others_at w.table (pred w.passes) j p e)
      (refl, record { same = refl; first = λ z. absurd (omega (arith, z)); other = λ _. refl }, record { list = refl; front = refl; turns = refl; busy = refl })

  pub all_of : AreAllOf w all
  all_of = record { length = (let h = length_others w.table (pred w.passes) in omega (arith, h)); each = λ k p e. let q = each k p e in (q.0, q.1) }

  pub all_fresh : (k : ℕ) (p : PassState) → slice_get all k ≡ Some p → IsFresh p
  all_fresh k p e = (each k p e).2

pub taken_in_none : (v : View) → v.holds ≡ false → HasTakenIn v [] v
taken_in_none v free = record { made = refl; free = free; was = λ i p e. e; came = λ k p e. absurd (None-not p e) }

pub taken_in_more : (v w u : View) (rest : List PassState) (z : TableId) (p : PassState) → pass_state z u ≡ p → u.parts ≡ own u ∷ [] → HasTakenIn v rest w → HasTakenIn v (p ∷ rest) (keeper_after w u)
taken_in_more v w u rest z p seen parts g = record {
  made = g.made;
  free = g.free;
  was = λ i q e. at_longer w.parts u.parts i q (g.was i q e);
  came = came;
}
  where
    came : (k : ℕ) (q : PassState) → slice_get (p ∷ rest) k ≡ Some q → (i : ℕ) × (get_elem? (w.parts ++ u.parts) i ≡ some (part_of q))
    came zero q e =
        let same : own u ≡ part_of q = ap part_of (seen ∙ Some-same p q e) in
        (length w.parts, ap (λ (ps : List Part). get_elem? (w.parts ++ ps) (length w.parts)) parts ∙ at_there w.parts [] (own u) ∙ ap some same)
    came (suc k) q e = let c = g.came k q e in (c.0, at_longer w.parts u.parts c.0 (part_of q) c.1)

pub get_there : {A : Type 0} (xs ys : List A) (a : A) → slice_get ((xs ++ a ∷ []) ++ ys) (length xs) ≡ Some a
get_there [] ys a = refl
get_there (x ∷ xs) ys a = get_there xs ys a

-- all passes of a set, in one seat
module _ (w : SetIdentity) (first : PassState) (rest : List PassState) (all : AreAllOf w (first ∷ rest)) (some_pass : 0 < w.passes) where
  pub others_known : (k : ℕ) (p : PassState) → slice_get rest k ≡ Some p → (p.table ≡ w.table) × (p.made ≡ 0)
  others_known k p e =
      let f = all.each (suc k) p e in
      let n = f.0 in
      (f.1.same, f.1.other (λ z. omega (arith, n, z)))

  module _ (z : TableId) (v u : View) (seen : pass_state z v ≡ first) (parts : v.parts ≡ own v ∷ []) (g : HasTakenIn v rest u) where
    made_is : u.made ≡ w.passes
    made_is = let f = all.each 0 first refl in g.made ∙ ap (λ (p : PassState). p.made) seen ∙ f.1.first f.0

    pub makes_some : u.made ≢ 0
    makes_some e = let m = made_is in omega (arith, m, e, some_pass)

    pub has_part : (k : ℕ) (p : PassState) → slice_get (first ∷ rest) k ≡ Some p → (i : ℕ) × (get_elem? u.parts i ≡ some (part_of p))
    has_part zero p e = (0, g.was 0 (part_of p) (ap (λ (ps : List Part). get_elem? ps 0) parts ∙ ap some (ap part_of (seen ∙ Some-same first p e))))
    has_part (suc k) p e = g.came k p e

    pub has_each : HasEach u
    has_each k low =
        let m = made_is in
        let len = all.length in
        let p = get_within (first ∷ rest) k (omega (arith, low, m, len)) in
        let q = has_part k p.0 p.1 in
        (q.0, part_of p.0, q.1, (all.each k p.0 p.1).0)

    pub lists_are : (h : List Entered) → IsHistoryOf u h → (k : ℕ) (p : PassState) → slice_get (first ∷ rest) k ≡ Some p → (added_by h k ≡ p.list) × BeginsWith h p.front
    lists_are h is k p e =
        let q = has_part k p e in
        let n = (all.each k p e).0 in
        let f = is.parts q.0 (part_of p) q.1 in
        (ap (added_by h) (sym n) ∙ f.0, f.1)

    pub others_none : (h : List Entered) → IsHistoryOf u h → (k : ℕ) → w.passes ≤ k → added_by h k ≡ []
    others_none h is k le = let m = made_is in is.none_else k (omega (arith, le, m))

pub taken_first : {A : Type 0} (l t : List A) (x : A) → 0 < length l → t ≡ remove l 0 → x ≡ slice_index_or l 0 x → l ≡ x ∷ t
taken_first [] t x full is value = absurd (omega (arith, full))
taken_first (y ∷ l) t x full is value = λ i. sym value i ∷ sym is i

-- all passes of a set, read by an index
pub at_number : (w : SetIdentity) (ps : List PassState) → AreAllOf w ps → (k : ℕ) (d : PassState) → k < length ps → IsPassOf w (slice_index_or ps k d) × ((slice_index_or ps k d).number ≡ k)
at_number w ps all k d low = let known = all.each k (slice_index_or ps k d) (get_at ps k d low) in (known.1, known.0)

pub by_number : (w : SetIdentity) (ps : List PassState) → length ps ≡ w.passes → ((k : ℕ) (d : PassState) → k < length ps → IsPassOf w (slice_index_or ps k d) × ((slice_index_or ps k d).number ≡ k)) → AreAllOf w ps
by_number w ps many each = record {
  length = many;
  each = λ k p e.
      let at = at_got ps k p p e in
      subst (λ (q : PassState). (q.number ≡ k) × IsPassOf w q) at.1 (let known = each k p at.0 in (known.1, known.0));
}
