-- Maps and filters of lists.
use Rattle.std.proofs.Common.{◌≡◌, ◌∙◌, ℕ, zero, suc, ◌+◌, ◌<◌, ◌≤◌, List, [], ◌∷◌, ◌++◌, Bool, true, false, not, ◌&&◌, ◌||◌, cond, map, take, drop, length, Contains, refl, sym, ap, subst, arith, inl, inr, Some}
use Rattle.std.specs.Prelude.{filter, slice_get, ◌==◌}
use Rattle.std.proofs.lemmas.Bool.{cases_eq, eq-eqb, ne_eqb}
use Rattle.std.proofs.lemmas.List.{length-append, map-append}
use Rattle.std.proofs.lemmas.List.Elements.{Contains-push_cases, filter-append}
use Rattle.std.proofs.lemmas.List.Sums.{count_by-le-length, length-filter}
use Rattle.std.proofs.lemmas.Option.{same_Some, slice_get_within}
use Rattle.orders.specs.Orders.{nodes_below}
use Rattle.orders.proofs.Below.{length-below}
use Rattle.orders.proofs.Members.{Contains-nil, Contains-head, Contains-tail, Contains-filter_back}
use Rattle.test_lang.proofs.Places.{slice_get-append_left, slice_get_end}
use Rattle.test_lang.proofs.PlayLaws.Moves.{slice_get-Contains}

-- maps

pub map_same_at : {X Y : Type 0} (f g : X → Y) (xs : List X) → ((j : ℕ) (x : X) → slice_get xs j ≡ Some x → f x ≡ g x) → map f xs ≡ map g xs
map_same_at f g [] same = refl
map_same_at f g (x ∷ xs) same = ap (λ y. y ∷ map f xs) (same 0 x refl) ∙ ap (λ ys. g x ∷ ys) (map_same_at f g xs (λ j y e. same (suc j) y e))

pub map_same : {X Y : Type 0} (f g : X → Y) (xs : List X) → ((x : X) → f x ≡ g x) → map f xs ≡ map g xs
map_same f g xs same = map_same_at f g xs (λ j x e. same x)

pub map-map : {X Y Z : Type 0} (g : Y → Z) (f : X → Y) (xs : List X) → map g (map f xs) ≡ map (λ x. g (f x)) xs
map-map g f [] = refl
map-map g f (x ∷ xs) = ap (λ ys. g (f x) ∷ ys) (map-map g f xs)

-- of numbers below one

pub below_at : (n k : ℕ) → k < n → slice_get (nodes_below n) k ≡ Some k
below_at zero k lt = absurd (omega (arith, lt))
below_at (suc n) k lt = elim (cases_eq k n) [
  | inl same ↦ slice_get_end (nodes_below n) n k (same ∙ sym (length-below n)) ∙ ap (λ (m : ℕ). Some m) (sym same)
  | inr other ↦ slice_get-append_left (nodes_below n) (n ∷ []) k k (below_at n k (omega (arith, lt, other)))
]

pub at_below : (n k x : ℕ) → slice_get (nodes_below n) k ≡ Some x → k ≡ x
at_below n k x e =
    let lt = slice_get_within (nodes_below n) k x e in
    let long = length-below n in
    same_Some k x (sym (below_at n k (omega (arith, lt, long))) ∙ e)

-- filters

pub filter_same_in : (p q : ℕ → Bool) (xs : List ℕ) → ((x : ℕ) → Contains xs x → p x ≡ q x) → filter p xs ≡ filter q xs
filter_same_in p q [] same = refl
filter_same_in p q (x ∷ xs) same =
    ap (λ b. cond b (x ∷ filter p xs) (filter p xs)) (same x (Contains-head x xs x refl))
    ∙ ap (λ ys. cond (q x) (x ∷ ys) ys) (filter_same_in p q xs (λ y there. same y (Contains-tail x xs y there)))

pub filter_all : (p : ℕ → Bool) (xs : List ℕ) → ((x : ℕ) → Contains xs x → p x ≡ true) → filter p xs ≡ xs
filter_all p [] each = refl
filter_all p (x ∷ xs) each =
    ap (λ b. cond b (x ∷ filter p xs) (filter p xs)) (each x (Contains-head x xs x refl)) ∙ ap (λ ys. x ∷ ys) (filter_all p xs (λ y there. each y (Contains-tail x xs y there)))

filtered_twice : (p q : ℕ → Bool) (x : ℕ) (xs : List ℕ) (b : Bool) → filter p (filter q xs) ≡ filter (λ y. q y && p y) xs
    → filter p (cond b (x ∷ filter q xs) (filter q xs)) ≡ cond (b && p x) (x ∷ filter (λ y. q y && p y) xs) (filter (λ y. q y && p y) xs)
filtered_twice p q x xs true e = ap (λ ys. cond (p x) (x ∷ ys) ys) e
filtered_twice p q x xs false e = e

pub filter-filter : (p q : ℕ → Bool) (xs : List ℕ) → filter p (filter q xs) ≡ filter (λ y. q y && p y) xs
filter-filter p q [] = refl
filter-filter p q (x ∷ xs) = filtered_twice p q x xs (q x) (filter-filter p q xs)

-- lists in which each number stands once

abbrev pub IsOnce : List ℕ → Type 0
IsOnce [] = Unit {0}
IsOnce (x ∷ xs) = (Contains xs x → ⊥) × IsOnce xs

pub once_push : (xs : List ℕ) (n : ℕ) → IsOnce xs → (Contains xs n → ⊥) → IsOnce (xs ++ n ∷ [])
once_push [] n once out = (λ there. Contains-nil n there, tt)
once_push (x ∷ xs) n once out = (
  λ there. elim (Contains-push_cases xs n x there) [ inl old ↦ once.0 old | inr same ↦ out (Contains-head x xs n (sym same)) ],
  once_push xs n once.1 (λ there. out (Contains-tail x xs n there)),
)

filtered_once : (p : ℕ → Bool) (x : ℕ) (xs : List ℕ) (b : Bool) → (Contains xs x → ⊥) → IsOnce (filter p xs) → IsOnce (cond b (x ∷ filter p xs) (filter p xs))
filtered_once p x xs true out rest = (λ there. out (Contains-filter_back p xs x there).0, rest)
filtered_once p x xs false out rest = rest

pub once_filter : (p : ℕ → Bool) (xs : List ℕ) → IsOnce xs → IsOnce (filter p xs)
once_filter p [] once = once
once_filter p (x ∷ xs) once = filtered_once p x xs (p x) once.0 (once_filter p xs once.1)

-- without the one at a place
pub filter_without : (ys : List ℕ) (k n : ℕ) → IsOnce ys → slice_get ys k ≡ Some n → filter (λ m. not (n == m)) ys ≡ take k ys ++ drop (suc k) ys
filter_without [] k n once e = absurd cc
filter_without (y ∷ ys) zero n once e =
    let same : y ≡ n = same_Some y n e in
    ap (λ b. cond (not b) (y ∷ filter (λ m. not (n == m)) ys) (filter (λ m. not (n == m)) ys)) (eq-eqb n y (sym same))
    ∙ filter_all (λ m. not (n == m)) ys (λ m there. ap not (ne_eqb n m (λ is. once.0 (subst (Contains ys) (sym is ∙ sym same) there))))
filter_without (y ∷ ys) (suc k) n once e =
    ap (λ b. cond (not b) (y ∷ filter (λ m. not (n == m)) ys) (filter (λ m. not (n == m)) ys)) (ne_eqb n y (λ is. once.0 (subst (Contains ys) is (slice_get-Contains ys k n e))))
    ∙ ap (λ zs. y ∷ zs) (filter_without ys k n once.1 e)

pub or_false : (b : Bool) → (b || false) ≡ b
or_false true = refl
or_false false = refl

-- numbers below one more, and those that pass

pub below_more : (n : ℕ) → nodes_below (n + 1) ≡ nodes_below n ++ n ∷ []
below_more n = let next : n + 1 ≡ suc n = omega arith in ap nodes_below next

pub map_below_more : {Y : Type 0} (f : ℕ → Y) (n : ℕ) → map f (nodes_below (n + 1)) ≡ map f (nodes_below n) ++ f n ∷ []
map_below_more f n = ap (map f) (below_more n) ∙ map-append f (nodes_below n) (n ∷ [])

pub filter_below_more : (test : ℕ → Bool) (n : ℕ) → filter test (nodes_below (n + 1)) ≡ filter test (nodes_below n) ++ cond (test n) (n ∷ []) []
filter_below_more test n = ap (filter test) (below_more n) ∙ filter-append test (nodes_below n) (n ∷ [])

pub length-filter_below_more : (test : ℕ → Bool) (n : ℕ) → length (filter test (nodes_below (n + 1))) ≡ length (filter test (nodes_below n)) + cond (test n) 1 0
length-filter_below_more test n = ap length (filter_below_more test n) ∙ length-append (filter test (nodes_below n)) (cond (test n) (n ∷ []) []) ∙ ap (λ (k : ℕ). length (filter test (nodes_below n)) + k) (one (test n)) where
  one : (b : Bool) → length (cond b (n ∷ []) []) ≡ cond b 1 0
  one true = refl
  one false = refl

pub few_pass : (test : ℕ → Bool) (n : ℕ) → length (filter test (nodes_below n)) ≤ n
few_pass test n =
    let counted = length-filter test (nodes_below n) in
    let few = count_by-le-length test (nodes_below n) in
    let long = length-below n in
    omega (arith, counted, few, long)

-- a number that passes stands behind those before it that do
pub passing_at : (test : ℕ → Bool) (n k : ℕ) → k < n → test k ≡ true → slice_get (filter test (nodes_below n)) (length (filter test (nodes_below k))) ≡ Some k
passing_at test zero k lt passes = absurd (omega (arith, lt))
passing_at test (suc n) k lt passes =
    ap (λ (xs : List ℕ). slice_get xs (length (filter test (nodes_below k)))) (filter-append test (nodes_below n) (n ∷ []))
    ∙ elim (cases_eq k n) [
      | inl same ↦
          ap (λ b. slice_get (filter test (nodes_below n) ++ cond b (n ∷ []) []) (length (filter test (nodes_below k)))) (ap test (sym same) ∙ passes)
          ∙ slice_get_end (filter test (nodes_below n)) n (length (filter test (nodes_below k))) (ap (λ (m : ℕ). length (filter test (nodes_below m))) same)
          ∙ ap (λ (m : ℕ). Some m) (sym same)
      | inr other ↦ slice_get-append_left (filter test (nodes_below n)) (cond (test n) (n ∷ []) []) (length (filter test (nodes_below k))) k (passing_at test n k (omega (arith, lt, other)) passes)
    ]
