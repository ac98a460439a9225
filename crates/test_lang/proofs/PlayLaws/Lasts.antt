-- Lists: what passes a test in them, the last element that does, and what they have.
use Rattle.std.proofs.Common.{◌≡◌, ◌≢◌, ◌⊎◌, AllPairs, ⊎_elim, sym, not, ◌∙◌, ℕ, zero, suc, ◌<◌, List, [], ◌∷◌, Bool, true, false, ◌&&◌, ◌||◌, cond, map, length, get_or, Contains, inl, inr, arith, refl, ap, subst}
use Rattle.std.specs.Prelude.{filter, ◌==◌}
use Rattle.std.specs.List.{list_any, list_all}
use Rattle.orders.specs.Orders.{nodes_below}
use Rattle.orders.proofs.Below.{all-below, has-below}
use Rattle.std.proofs.lemmas.Bool.{cases_order, eqb-true, eq-eqb}
use Rattle.orders.proofs.Members.{Contains-nil, Contains-head, Contains-tail, Contains-cons_cases, Contains-filter, Contains-map}
use Rattle.test_lang.specs.Play.States.{has, last_value}

pub both : (x y : Bool) → (x && y) ≡ true → (x ≡ true) × (y ≡ true)
both true y h = (refl, h)
both false y h = absurd cc

pub not_false : (b : Bool) → not b ≡ false → b ≡ true
not_false true h = refl
not_false false h = absurd cc

pub both_true : (x y : Bool) → x ≡ true → y ≡ true → (x && y) ≡ true
both_true true y h k = k
both_true false y h k = absurd cc

-- what the last of those that pass gives
pub data LastIn (test : ℕ → Bool) (f : ℕ → ℕ) (xs : List ℕ) (value : ℕ) : Type 0 where
  nothing : filter test xs ≡ [] → value ≡ 0 → ((k : ℕ) → k < length xs → test (get_or xs k 0) ≡ false) → LastIn test f xs value
  last : (k : ℕ) → k < length xs → test (get_or xs k 0) ≡ true → value ≡ f (get_or xs k 0) → ((j : ℕ) → k < j → j < length xs → test (get_or xs j 0) ≡ false) → LastIn test f xs value

last_value-more : (x : ℕ) (ys : List ℕ) → (ys ≡ [] → ⊥) → last_value (x ∷ ys) ≡ last_value ys
last_value-more x [] h = absurd (h refl)
last_value-more x (y ∷ ys) h = refl

none_more : (test : ℕ → Bool) (x : ℕ) (xs : List ℕ) → test x ≡ false → ((k : ℕ) → k < length xs → test (get_or xs k 0) ≡ false) → (k : ℕ) → k < length (x ∷ xs) → test (get_or (x ∷ xs) k 0) ≡ false
none_more test x xs e rest zero lt = e
none_more test x xs e rest (suc k) lt = rest k (omega (arith, lt))

after_head : (test : ℕ → Bool) (x : ℕ) (xs : List ℕ) → ((k : ℕ) → k < length xs → test (get_or xs k 0) ≡ false) → (j : ℕ) → 0 < j → j < length (x ∷ xs) → test (get_or (x ∷ xs) j 0) ≡ false
after_head test x xs rest zero lt below = absurd (omega (arith, lt))
after_head test x xs rest (suc j) lt below = rest j (omega (arith, below))

after_tail : (test : ℕ → Bool) (x : ℕ) (xs : List ℕ) (k : ℕ) → ((j : ℕ) → k < j → j < length xs → test (get_or xs j 0) ≡ false) → (j : ℕ) → suc k < j → j < length (x ∷ xs) → test (get_or (x ∷ xs) j 0) ≡ false
after_tail test x xs k rest zero lt below = absurd (omega (arith, lt))
after_tail test x xs k rest (suc j) lt below = rest j (omega (arith, lt)) (omega (arith, below))

last_step : (test : ℕ → Bool) (f : ℕ → ℕ) (x : ℕ) (xs : List ℕ) (b : Bool) → test x ≡ b → LastIn test f xs (last_value (map f (filter test xs)))
    → (filter test (x ∷ xs) ≡ cond b (x ∷ filter test xs) (filter test xs)) → LastIn test f (x ∷ xs) (last_value (map f (cond b (x ∷ filter test xs) (filter test xs))))
last_step test f x xs true e (nothing none z rest) is =
    let value : last_value (map f (x ∷ filter test xs)) ≡ f x = ap (λ (ys : List ℕ). last_value (map f (x ∷ ys))) none in
    last 0 (omega arith) e value (after_head test x xs rest)
last_step test f x xs true e (last k lt t v rest) is =
    let there = Contains-map f (filter test xs) (get_or xs k 0) (Contains-filter test xs (get_or xs k 0) (k, lt, stands xs k lt) t) in
    let some : map f (filter test xs) ≡ [] → ⊥ = λ empty. Contains-nil (f (get_or xs k 0)) (subst (λ (ys : List ℕ). Contains ys (f (get_or xs k 0))) empty there) in
    last (suc k) (omega (arith, lt)) t (last_value-more (f x) (map f (filter test xs)) some ∙ v) (after_tail test x xs k rest) where
      stands : (xs : List ℕ) (k : ℕ) → k < length xs → get_or xs k (get_or xs k 0) ≡ get_or xs k 0
      stands [] k lt = absurd (omega (arith, lt))
      stands (x ∷ xs) zero lt = refl
      stands (x ∷ xs) (suc k) lt = stands xs k (omega (arith, lt))
last_step test f x xs false e (nothing none z rest) is = nothing (is ∙ none) z (none_more test x xs e rest)
last_step test f x xs false e (last k lt t v rest) is = last (suc k) (omega (arith, lt)) t v (after_tail test x xs k rest)

pub last_in : (test : ℕ → Bool) (f : ℕ → ℕ) (xs : List ℕ) → LastIn test f xs (last_value (map f (filter test xs)))
last_in test f [] = nothing refl refl (λ k lt. absurd (omega (arith, lt)))
last_in test f (x ∷ xs) = last_step test f x xs (test x) refl (last_in test f xs) refl

-- some element passes, or none does

pub any_true : (test : ℕ → Bool) (xs : List ℕ) → list_any test xs ≡ true → (x : ℕ) × Contains xs x × (test x ≡ true)
any_true test [] h = absurd cc
any_true test (y ∷ ys) h = at (test y) refl h (any_true test ys) where
  at : (b : Bool) → test y ≡ b → (b || list_any test ys) ≡ true → (list_any test ys ≡ true → (x : ℕ) × Contains ys x × (test x ≡ true)) → (x : ℕ) × Contains (y ∷ ys) x × (test x ≡ true)
  at true e k more = (y, Contains-head y ys y refl, e)
  at false e k more = let found = more k in (found.0, Contains-tail y ys found.0 found.1, found.2)

pub any_false : (test : ℕ → Bool) (xs : List ℕ) → list_any test xs ≡ false → (x : ℕ) → Contains xs x → test x ≡ false
any_false test [] h x at = absurd (Contains-nil x at)
any_false test (y ∷ ys) h x there = at (test y) refl h (λ k r. any_false test ys k x r) where
  at : (b : Bool) → test y ≡ b → (b || list_any test ys) ≡ false → (list_any test ys ≡ false → Contains ys x → test x ≡ false) → test x ≡ false
  at true e k more = absurd cc
  at false e k more = elim (Contains-cons_cases y ys x there) [ inl same ↦ subst (λ (z : ℕ). test z ≡ false) same e | inr r ↦ more k r ]

pub any_passes : (test : ℕ → Bool) (xs : List ℕ) (x : ℕ) → Contains xs x → test x ≡ true → list_any test xs ≡ true
any_passes test xs x there t = at (list_any test xs) refl where
  at : (b : Bool) → list_any test xs ≡ b → b ≡ true
  at true e = refl
  at false e = let no = any_false test xs e x there in absurd cc

pub has_true : (xs : List ℕ) (x : ℕ) → has xs x ≡ true → Contains xs x
has_true xs x h = let found = any_true (λ y. y == x) xs h in subst (Contains xs) (eqb-true found.0 x found.2) found.1

pub has_false : (xs : List ℕ) (x : ℕ) → has xs x ≡ false → Contains xs x → ⊥
has_false xs x h there =
    let no : (x == x) ≡ false = any_false (λ y. y == x) xs h x there in
    let yes : (x == x) ≡ true = eq-eqb x x refl in absurd cc

pub true_has : (xs : List ℕ) (x : ℕ) → Contains xs x → has xs x ≡ true
true_has xs x there = any_passes (λ y. y == x) xs x there (eq-eqb x x refl)

-- each number below one passes, or some doesn't

pub all_in : (test : ℕ → Bool) (xs : List ℕ) → list_all test xs ≡ true → (x : ℕ) → Contains xs x → test x ≡ true
all_in test [] h x there = absurd (Contains-nil x there)
all_in test (y ∷ ys) h x there =
    let parts = both (test y) (list_all test ys) h in
    elim (Contains-cons_cases y ys x there) [ inl same ↦ subst (λ (z : ℕ). test z ≡ true) same parts.0 | inr r ↦ all_in test ys parts.1 x r ]

pub all_at : (test : ℕ → Bool) (n : ℕ) → list_all test (nodes_below n) ≡ true → (k : ℕ) → k < n → test k ≡ true
all_at test n h k lt = all_in test (nodes_below n) h k (has-below n k lt)

in_all : (test : ℕ → Bool) (xs : List ℕ) → ((x : ℕ) → Contains xs x → test x ≡ true) → list_all test xs ≡ true
in_all test [] h = refl
in_all test (y ∷ ys) h = both_true (test y) (list_all test ys) (h y (Contains-head y ys y refl)) (in_all test ys (λ x there. h x (Contains-tail y ys x there)))

pub all_true : (test : ℕ → Bool) (n : ℕ) → ((k : ℕ) → k < n → test k ≡ true) → list_all test (nodes_below n) ≡ true
all_true test n h = in_all test (nodes_below n) (λ x there. let below = all-below n there.0 x there.1 in let is = there.2 in h x (omega (arith, below, is)))

-- what doesn't stand in a list, and places in a list whose elements stand once

pub lacks : (xs : List ℕ) (x : ℕ) → (Contains xs x → ⊥) → not (has xs x) ≡ true
lacks xs x out = at (has xs x) refl where
  at : (b : Bool) → has xs x ≡ b → not b ≡ true
  at true e = absurd (out (has_true xs x e))
  at false e = refl

pub one_place : (xs : List ℕ) → AllPairs (λ a b. a ≢ b) xs → (i j : ℕ) → i < length xs → j < length xs → get_or xs i 0 ≡ get_or xs j 0 → i ≡ j
one_place xs once i j li lj same = ⊎_elim (λ (h : i ≡ j). h)
    (λ (other : (i < j) ⊎ (j < i)). ⊎_elim (λ (lt : i < j). absurd (once i j 0 lt lj same)) (λ (lt : j < i). absurd (once j i 0 lt li (sym same))) other)
    (cases_order i j)
