-- The base store of a load: the last store to its word before it in its own thread.
use Rattle.std.proofs.Common.{◌≡◌, ◌∙◌, ℕ, zero, suc, ◌<◌, List, [], ◌∷◌, ◌++◌, Bool, true, false, cond, inl, inr, arith, refl, sym, subst, Option, None, Some, append-nil}
use Rattle.std.specs.Prelude.{filter}
use Rattle.std.specs.List.{last_or}
use Rattle.std.proofs.lemmas.Bool.{cases_eq}
use Rattle.std.proofs.lemmas.List.Elements.{filter-append}
use Rattle.std.proofs.lemmas.Option.{same_Some}
use Rattle.orders.specs.Orders.{nodes_below}
use Rattle.test_lang.specs.Program.{Program, op_count}
use Rattle.test_lang.specs.Runs.{own_earlier, base_store}

-- the last of a list that grew at its end

last_or-push : (o : Option ℕ) (xs : List ℕ) (x : ℕ) → last_or o (xs ++ x ∷ []) ≡ Some x
last_or-push o [] x = refl
last_or-push o (y ∷ ys) x = last_or-push (Some y) ys x

pub last-push : (xs : List ℕ) (x : ℕ) → last_or None (xs ++ x ∷ []) ≡ Some x
last-push xs x = last_or-push None xs x

-- what is found as the last number below n that passes, if there is one
pub data LastBelow (test : ℕ → Bool) (n : ℕ) (found : Option ℕ) : Type 0 where
  nothing : found ≡ None → ((k : ℕ) → k < n → test k ≡ false) → LastBelow test n found
  last : (w : ℕ) → w < n → test w ≡ true → found ≡ Some w → ((k : ℕ) → w < k → k < n → test k ≡ false) → LastBelow test n found

none_more : (test : ℕ → Bool) (n : ℕ) → test n ≡ false → ((k : ℕ) → k < n → test k ≡ false) → (k : ℕ) → k < suc n → test k ≡ false
none_more test n e rest k lt = elim (cases_eq k n) [ inl same ↦ subst (λ (z : ℕ). test z ≡ false) (sym same) e | inr other ↦ rest k (omega (arith, lt, other)) ]

last_more : (test : ℕ → Bool) (n : ℕ) (found : Option ℕ) → test n ≡ false → LastBelow test n found → LastBelow test (suc n) found
last_more test n found e (nothing is rest) = nothing is (none_more test n e rest)
last_more test n found e (last w lt t is rest) =
    last w (omega (arith, lt)) t is (λ k above below. elim (cases_eq k n) [ inl same ↦ subst (λ (z : ℕ). test z ≡ false) (sym same) e | inr other ↦ rest k above (omega (arith, below, other)) ])

last_step : (test : ℕ → Bool) (n : ℕ) (b : Bool) → test n ≡ b → LastBelow test n (last_or None (filter test (nodes_below n))) →
    LastBelow test (suc n) (last_or None (filter test (nodes_below n) ++ cond b (n ∷ []) []))
last_step test n true e rest = last n (omega arith) e (last-push (filter test (nodes_below n)) n) (λ k above below. absurd (omega (arith, above, below)))
last_step test n false e rest =
    let same : filter test (nodes_below n) ++ [] ≡ filter test (nodes_below n) = simp append-nil in
    subst (λ (xs : List ℕ). LastBelow test (suc n) (last_or None xs)) (sym same) (last_more test n (last_or None (filter test (nodes_below n))) e rest)

pub last_below : (test : ℕ → Bool) (n : ℕ) → LastBelow test n (last_or None (filter test (nodes_below n)))
last_below test zero = nothing refl (λ k lt. absurd (omega (arith, lt)))
last_below test (suc n) =
    subst (λ (xs : List ℕ). LastBelow test (suc n) (last_or None xs)) (sym (filter-append test (nodes_below n) (n ∷ []))) (last_step test n (test n) refl (last_below test n))

-- of the own earlier stores

pub base_store_below : (p : Program) (load : ℕ) → LastBelow (own_earlier p load) (op_count p) (base_store p load)
base_store_below p load = last_below (own_earlier p load) (op_count p)

own_from : (test : ℕ → Bool) (n store : ℕ) (found : Option ℕ) → LastBelow test n found → found ≡ Some store → test store ≡ true
own_from test n store found (nothing is none) e = absurd cc
own_from test n store found (last w lt t is none) e = subst (λ (z : ℕ). test z ≡ true) (same_Some w store (sym is ∙ e)) t

-- the base store is an own earlier store
pub base_store_own : (p : Program) (load store : ℕ) → base_store p load ≡ Some store → own_earlier p load store ≡ true
base_store_own p load store e = own_from (own_earlier p load) (op_count p) store (base_store p load) (base_store_below p load) e
