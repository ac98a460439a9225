-- What is found among all nodes: the first one that passes.
use Rattle.std.proofs.Common.{◌≡◌, ℕ, zero, suc, ◌<◌, ◌≤◌, [], ◌∷◌, Bool, true, false, cond, arith, refl, sym, ap, subst, ◌∙◌, inl, inr}
use Rattle.std.specs.Prelude.{find, Option, Some, None}
use Rattle.std.specs.Option.{option_or}
use Rattle.std.proofs.lemmas.Bool.{cases_eq}
use Rattle.std.proofs.lemmas.List.Folds.{find-append}
use Rattle.orders.specs.Orders.{nodes_below}

pub find_below-suc : (test : ℕ → Bool) (n : ℕ) → find test (nodes_below (suc n)) ≡ option_or (find test (nodes_below n)) (cond (test n) (Some n) None)
find_below-suc test n = find-append test (nodes_below n) (n ∷ [])

-- the first number below n that passes is the one given
pub record IsFound (test : ℕ → Bool) (n found : ℕ) : Type 0 where
  pub below : found < n
  pub passes : test found ≡ true
  pub none_before : (k : ℕ) → k < found → test k ≡ false

module _ (test : ℕ → Bool) where
  pub find_below-none : (n : ℕ) → ((k : ℕ) → k < n → test k ≡ false) → find test (nodes_below n) ≡ None
  find_below-none zero h = refl
  find_below-none (suc n) h =
      find_below-suc test n
      ∙ ap (λ (b : Bool). option_or (find test (nodes_below n)) (cond b (Some n) None)) (h n (omega arith))
      ∙ ap (λ (found : Option ℕ). option_or found None) (find_below-none n (λ k lt. h k (omega (arith, lt))))

  is_step : (n found : ℕ) (b : Bool) → test n ≡ b → (find test (nodes_below n) ≡ Some found → IsFound test n found) → (find test (nodes_below n) ≡ None → (k : ℕ) → k < n → test k ≡ false)
      → (o : Option ℕ) → find test (nodes_below n) ≡ o → option_or o (cond b (Some n) None) ≡ Some found → IsFound test (suc n) found
  is_step n found b e some none (Some k) f h =
      let same : k ≡ found = cc in
      let r = some (f ∙ ap Some same) in
      let lt = r.below in
      record { below = omega (arith, lt); passes = r.passes; none_before = r.none_before }
  is_step n found true e some none None f h =
      let same : n ≡ found = cc in
      record {
        below = omega (arith, same);
        passes = subst (λ (k : ℕ). test k ≡ true) same e;
        none_before = λ k lt. none f k (omega (arith, lt, same));
      }
  is_step n found false e some none None f h = absurd cc

  none_step : (n : ℕ) (b : Bool) → test n ≡ b → (find test (nodes_below n) ≡ None → (k : ℕ) → k < n → test k ≡ false) → (o : Option ℕ) → find test (nodes_below n) ≡ o
      → option_or o (cond b (Some n) None) ≡ None → (k : ℕ) → k < suc n → test k ≡ false
  none_step n b e rest (Some x) f h = absurd cc
  none_step n true e rest None f h = absurd cc
  none_step n false e rest None f h = λ k lt. elim (cases_eq k n) [ inl same ↦ subst (λ (z : ℕ). test z ≡ false) (sym same) e | inr other ↦ rest f k (omega (arith, lt, other)) ]

  pub find_below-nothing : (n : ℕ) → find test (nodes_below n) ≡ None → (k : ℕ) → k < n → test k ≡ false
  find_below-nothing zero e = λ k lt. absurd (omega (arith, lt))
  find_below-nothing (suc n) e = none_step n (test n) refl (find_below-nothing n) (find test (nodes_below n)) refl (sym (find_below-suc test n) ∙ e)

  pub find_below-some : (n found : ℕ) → find test (nodes_below n) ≡ Some found → IsFound test n found
  find_below-some zero found e = absurd cc
  find_below-some (suc n) found e =
      is_step n found (test n) refl (find_below-some n found) (find_below-nothing n) (find test (nodes_below n)) refl (sym (find_below-suc test n) ∙ e)

  -- where one passes, the first is found, and isn't behind it
  found_at : (n k : ℕ) → k < n → test k ≡ true → (o : Option ℕ) → find test (nodes_below n) ≡ o → (first : ℕ) × (find test (nodes_below n) ≡ Some first) × (first ≤ k)
  found_at n k lt p None e = let no = find_below-nothing n e k lt in absurd cc
  found_at n k lt p (Some first) e = (first, e, not_behind first k (λ before. let no = (find_below-some n first e).none_before k before in cc)) where
    not_behind : (a b : ℕ) → (b < a → ⊥) → a ≤ b
    not_behind a b h = omega (arith, h)

  pub find_below-found : (n k : ℕ) → k < n → test k ≡ true → (first : ℕ) × (find test (nodes_below n) ≡ Some first) × (first ≤ k)
  find_below-found n k lt p = found_at n k lt p (find test (nodes_below n)) refl

  -- the one that passes, with none before it, is the one found
  pub find_below-is : (n k : ℕ) → IsFound test n k → find test (nodes_below n) ≡ Some k
  find_below-is n k h =
      let f = find_below-found n k h.below h.passes in
      let not_behind = f.2 in
      let p = (find_below-some n f.0 f.1).passes in
      let not_before : f.0 < k → ⊥ = λ before. let no = h.none_before f.0 before in cc in
      let same : f.0 ≡ k = omega (arith, not_behind, not_before) in
      f.1 ∙ ap Some same

-- equal tests find the same
pub find-same : (test other : ℕ → Bool) → ((k : ℕ) → test k ≡ other k) → (n : ℕ) → find test (nodes_below n) ≡ find other (nodes_below n)
find-same test other h zero = refl
find-same test other h (suc n) =
    find_below-suc test n
    ∙ ap (λ (found : Option ℕ). option_or found (cond (test n) (Some n) None)) (find-same test other h n)
    ∙ ap (λ (b : Bool). option_or (find other (nodes_below n)) (cond b (Some n) None)) (h n)
    ∙ sym (find_below-suc other n)
