-- Tests of lists that compute, and what they tell.
use Rattle.std.proofs.Common.{◌≡◌, ◌≢◌, ℕ, zero, suc, ◌<◌, List, [], ◌∷◌, Bool, true, false, not, ◌&&◌, ◌||◌, length, get_or, arith, Contains, AllPairs, inl, inr, refl, sym, subst, ◌∙◌}
use Rattle.std.specs.Prelude.{◌==◌}
use Rattle.std.specs.Bool.{Decides}
use Rattle.std.specs.List.{list_any, list_all}
use Rattle.std.proofs.lemmas.Bool.Decides.{Decides-eqb, Decides-and, Decides-by_or}
use Rattle.std.proofs.lemmas.List.Elements.{Decides-contains}
use Rattle.std.proofs.lemmas.List.{get_or_default}
use Rattle.orders.proofs.Members.{Contains-nil, Contains-head, Contains-tail, Contains-cons_cases}

pub and_true : (x y : Bool) → (x && y) ≡ true → (x ≡ true) × (y ≡ true)
and_true true y h = (refl, h)
and_true false y h = absurd cc

pub not_true : (x : Bool) → not x ≡ true → x ≡ false
not_true true h = absurd cc
not_true false h = refl

-- `not b || c` tells that c passes where b does

pub implied : (b c : Bool) → (not b || c) ≡ true → b ≡ true → c ≡ true
implied true c h e = h
implied false c h e = absurd cc

pub implies : (b c : Bool) → (b ≡ true → c ≡ true) → (not b || c) ≡ true
implies true c h = h refl
implies false c h = refl

pub all_true : (test : ℕ → Bool) (xs : List ℕ) → list_all test xs ≡ true → (x : ℕ) → Contains xs x → test x ≡ true
all_true test [] h x at = absurd (Contains-nil x at)
all_true test (y ∷ ys) h x at =
    let parts = and_true (test y) (list_all test ys) h in
    elim (Contains-cons_cases y ys x at) [ inl same ↦ subst (λ z. test z ≡ true) same parts.0 | inr more ↦ all_true test ys parts.1 x more ]

pub all_of : (test : ℕ → Bool) (xs : List ℕ) → ((x : ℕ) → Contains xs x → test x ≡ true) → list_all test xs ≡ true
all_of test [] each = refl
all_of test (y ∷ ys) each = both (test y) (list_all test ys) (each y (Contains-head y ys y refl)) (all_of test ys (λ x at. each x (Contains-tail y ys x at))) where
  both : (x y : Bool) → x ≡ true → y ≡ true → (x && y) ≡ true
  both true y h i = i
  both false y h i = absurd cc

-- whether the list has the number
abbrev pub has : List ℕ → ℕ → Bool
has xs x = list_any (λ y. y == x) xs

pub decides_has : (xs : List ℕ) (x : ℕ) → Decides (has xs x) (Contains xs x)
decides_has xs x = Decides-contains xs x (has xs x) (Decides-by_or (λ y. y == x) (λ y. y ≡ x) (list_any (λ y. y == x)) (λ y. Decides-eqb y x) refl (λ y ys. refl) xs)

paired : (x y a b : ℕ) → x ≡ a → y ≡ b → ◌≡◌ {A = ℕ × ℕ} (x, y) (a, b)
paired x y a b first second = cc

-- whether the list has the pair
abbrev pub has_pair : List (ℕ × ℕ) → ℕ → ℕ → Bool
has_pair pairs a b = list_any (λ pair. (pair.0 == a) && (pair.1 == b)) pairs

pub has_pair-contains : (pairs : List (ℕ × ℕ)) (a b : ℕ) → has_pair pairs a b ≡ true → Contains pairs (a, b)
has_pair-contains [] a b h = absurd cc
has_pair-contains (pair ∷ pairs) a b h = one ((pair.0 == a) && (pair.1 == b)) refl h (has_pair-contains pairs a b) where
  one : (here : Bool) → ((pair.0 == a) && (pair.1 == b)) ≡ here → (here || has_pair pairs a b) ≡ true → (has_pair pairs a b ≡ true → Contains pairs (a, b)) → Contains (pair ∷ pairs) (a, b)
  one true e h more =
      let parts = and_true (pair.0 == a) (pair.1 == b) e in
      let first : pair.0 ≡ a = (Decides-eqb pair.0 a).0 parts.0 in
      let second : pair.1 ≡ b = (Decides-eqb pair.1 b).0 parts.1 in
      Contains-head pair pairs (a, b) (paired pair.0 pair.1 a b first second)
  one false e h more = Contains-tail pair pairs (a, b) (more h)

pub contains-has_pair : (pairs : List (ℕ × ℕ)) (a b : ℕ) → Contains pairs (a, b) → has_pair pairs a b ≡ true
contains-has_pair [] a b h = absurd (Contains-nil (a, b) h)
contains-has_pair (pair ∷ pairs) a b h = elim (Contains-cons_cases pair pairs (a, b) h) [
  | inl same ↦ here ((pair.0 == a) && (pair.1 == b)) ((Decides-and (pair.0 == a) (pair.1 == b) (Decides-eqb pair.0 a) (Decides-eqb pair.1 b)).1 (cc, cc))
  | inr more ↦ there ((pair.0 == a) && (pair.1 == b)) (contains-has_pair pairs a b more)
] where
  here : (x : Bool) → x ≡ true → (x || has_pair pairs a b) ≡ true
  here true e = refl
  here false e = absurd cc

  there : (x : Bool) → has_pair pairs a b ≡ true → (x || has_pair pairs a b) ≡ true
  there true e = refl
  there false e = e

abbrev pub is_distinct : List ℕ → Bool
is_distinct [] = true
is_distinct (x ∷ xs) = not (has xs x) && is_distinct xs

pub distinct_pairs : (xs : List ℕ) → is_distinct xs ≡ true → AllPairs (λ a b. a ≢ b) xs
distinct_pairs [] h = λ i j d lt below. absurd (omega (arith, below))
distinct_pairs (x ∷ xs) h = cons x xs (and_true (not (has xs x)) (is_distinct xs) h) (distinct_pairs xs (and_true (not (has xs x)) (is_distinct xs) h).1) where
  at : (x : ℕ) (xs : List ℕ) → (has xs x ≡ false) → AllPairs (λ a b. a ≢ b) xs → (i j d : ℕ) → i < j → j < length (x ∷ xs) → get_or (x ∷ xs) i d ≢ get_or (x ∷ xs) j d
  at x xs none rest i zero d lt below same = absurd (omega (arith, lt))
  at x xs none rest zero (suc j) d lt below same =
      let there : has xs x ≡ true = (decides_has xs x).1 (j, omega (arith, below), get_or_default xs j x d (omega (arith, below)) ∙ sym same) in absurd cc
  at x xs none rest (suc i) (suc j) d lt below same = rest i j d (omega (arith, lt)) (omega (arith, below)) same

  cons : (x : ℕ) (xs : List ℕ) → (not (has xs x) ≡ true) × (is_distinct xs ≡ true) → AllPairs (λ a b. a ≢ b) xs → AllPairs (λ a b. a ≢ b) (x ∷ xs)
  cons x xs h rest = at x xs (not_true (has xs x) h.0) rest
