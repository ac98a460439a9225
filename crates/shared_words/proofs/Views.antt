-- Lists of views and of parts, read by `get_elem?`.
use Rattle.std.proofs.Common.{◌≡◌, ◌≢◌, ◌⊎◌, ℕ, zero, suc, ◌+◌, List, [], ◌∷◌, ◌++◌, length, set, refl, sym, ap, subst, ⊎_elim, inl, inr, arith}
use mathlib.Core.Option.{some, some-ne-none, some-injective}
use lib.ListN.{get_elem?}
use Rattle.atomic_table.proofs.Lists.{at_set}

module _ {A : Type 0} where
  -- what holds of the new one and of the others holds of each
  pub each_set : (P : ℕ → A → Type 0) (l : List A) (id : ℕ) (w : A) → P id w → ((j : ℕ) (u : A) → j ≢ id → get_elem? l j ≡ some u → P j u)
      → (j : ℕ) (u : A) → get_elem? (set l id w) j ≡ some u → P j u
  each_set P l id w mine others j u e =
      ⊎_elim
      (λ (x : (j ≡ id) × (w ≡ u)). subst (λ (y : ℕ × A). P y.0 y.1) (λ i. (sym x.0 i, x.1 i)) mine)
      (λ (x : (j ≢ id) × (get_elem? l j ≡ some u)). others j u x.0 x.1)
      (at_set l id j w u e)

  at_new : (l : List A) (a b : A) (j : ℕ) → get_elem? (l ++ a ∷ []) j ≡ some b → (get_elem? l j ≡ some b) ⊎ ((length l ≡ j) × (a ≡ b))
  at_new [] a b zero e = inr (refl, some-injective a b e)
  at_new [] a b (suc j) e = absurd (some-ne-none b (sym e))
  at_new (x ∷ xs) a b zero e = inl e
  at_new (x ∷ xs) a b (suc j) e = ⊎_elim (λ t. inl t) (λ t. inr (ap suc t.0, t.1)) (at_new xs a b j e)

  -- what holds of the new last one and of the others holds of each
  pub each_new : (P : ℕ → A → Type 0) (l : List A) (w : A) → P (length l) w → ((j : ℕ) (u : A) → get_elem? l j ≡ some u → P j u)
      → (j : ℕ) (u : A) → get_elem? (l ++ w ∷ []) j ≡ some u → P j u
  each_new P l w mine others j u e =
      ⊎_elim
      (λ (x : get_elem? l j ≡ some u). others j u x)
      (λ (x : (length l ≡ j) × (w ≡ u)). subst (λ (y : ℕ × A). P y.0 y.1) (λ i. (x.0 i, x.1 i)) mine)
      (at_new l w u j e)

  -- where an element of two lists in one stands
  pub at_both : (l m : List A) (i : ℕ) (a : A) → get_elem? (l ++ m) i ≡ some a → (get_elem? l i ≡ some a) ⊎ ((j : ℕ) × (length l + j ≡ i) × (get_elem? m j ≡ some a))
  at_both [] m i a e = inr (i, omega arith, e)
  at_both (x ∷ xs) m zero a e = inl e
  at_both (x ∷ xs) m (suc i) a e = ⊎_elim (λ t. inl t) (λ t. inr (t.0, (let s = t.1 in omega arith), t.2)) (at_both xs m i a e)
