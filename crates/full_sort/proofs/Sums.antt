-- Sums over lists of distinct numbers.
use Rattle.std.proofs.Common.{◌≡◌, ◌≢◌, ◌∙◌, ℕ, zero, suc, ◌+◌, ◌<◌, ◌≤◌, List, [], ◌∷◌, length, drop, Contains, AllPairs, Bool, true, false, cond, refl, sym, ap, arith, inl, inr, ⊎_elim, All, eqb, ne_eqb}
use Rattle.std.specs.Prelude.{sum_by, count_by}
use Rattle.std.proofs.lemmas.List.Sums.{sum_by-cons, get_or-le-sum_by}
use Rattle.std.proofs.lemmas.Bool.{cases_Bool, eqb-true, or_cases, false≢true, false_from_ne_true}
use Rattle.std.proofs.lemmas.List.Elements.{All-contains, All-head, All-tail}
use Rattle.std.proofs.lemmas.Map.Keys.{IsDistinct-from_apart}
use Rattle.std.proofs.lemmas.Map.Steps.{length-le_from_distinct_below}
use Rattle.std.specs.List.{list_any}
use Rattle.orders.proofs.Members.{Contains-head, Contains-tail}

-- each number once
abbrev pub IsOnce : List ℕ → Type 0
IsOnce xs = AllPairs (λ a b. a ≢ b) xs

pub once-tail : (y : ℕ) (ys : List ℕ) → IsOnce (y ∷ ys) → IsOnce ys
once-tail y ys h i j d lt below = h (suc i) (suc j) d (omega (arith, lt)) (omega (arith, below))

pub once-head : (y : ℕ) (ys : List ℕ) (a : ℕ) → IsOnce (y ∷ ys) → Contains ys a → y ≢ a
once-head y ys a h in_rest same =
    let below = in_rest.1 in
    h 0 (suc in_rest.0) a (omega arith) (omega (arith, below)) (same ∙ sym in_rest.2)

pub once-drop : (n : ℕ) (xs : List ℕ) → IsOnce xs → IsOnce (drop n xs)
once-drop zero xs h = h
once-drop (suc n) [] h = h
once-drop (suc n) (x ∷ xs) h = once-drop n xs (once-tail x xs h)

-- a list that passes the test of a number contains it
pub has-any : (xs : List ℕ) (q : ℕ) → list_any (eqb q) xs ≡ true → Contains xs q
has-any [] q h = absurd (false≢true h)
has-any (x ∷ xs) q h = ⊎_elim (λ e. Contains-head x xs q (sym (eqb-true q x e))) (λ r. Contains-tail x xs q (has-any xs q r)) (or_cases (eqb q x) (list_any (eqb q) xs) h)

-- a sum of nothing, and what a sum of 0 says
pub sum-zero : {X : Type 0} (f : X → ℕ) (xs : List X) → ((a : X) → Contains xs a → f a ≡ 0) → sum_by f xs ≡ 0
sum-zero f [] zeros = refl
sum-zero f (x ∷ xs) zeros =
    let parts = sum_by-cons f x xs in
    let head = zeros x (Contains-head x xs x refl) in
    let tail = sum-zero f xs (λ a h. zeros a (Contains-tail x xs a h)) in
    omega (arith, parts, head, tail)

pub term-le-sum : (f : ℕ → ℕ) (xs : List ℕ) (a : ℕ) → Contains xs a → f a ≤ sum_by f xs
term-le-sum f xs a h =
    let le = get_or-le-sum_by f xs h.0 a h.1 in
    let same = ap f h.2 in
    omega (arith, le, same)

pub some-of-sum : (f : ℕ → ℕ) (xs : List ℕ) → 0 < sum_by f xs → (a : ℕ) × Contains xs a
some-of-sum f [] more = absurd (omega (arith, more))
some-of-sum f (x ∷ xs) more = (x, Contains-head x xs x refl)

pub sum-ones : (xs : List ℕ) → sum_by (λ a. 1) xs ≡ length xs
sum-ones [] = refl
sum-ones (x ∷ xs) =
    let parts = sum_by-cons (λ a. 1) x xs in
    let rest = sum-ones xs in
    omega (arith, parts, rest)

abbrev pub one_if : Bool → ℕ
one_if b = cond b 1 0

-- a sum over the nodes of counts over the list, one element of the list more
pub sum-count-cons : {X : Type 0} (p : ℕ → X → Bool) (x : X) (xs : List X) (nodes : List ℕ) → sum_by (λ a. count_by (p a) (x ∷ xs)) nodes ≡ sum_by (λ a. one_if (p a x)) nodes + sum_by (λ a. count_by (p a) xs) nodes
sum-count-cons p x xs [] = refl
sum-count-cons p x xs (a ∷ nodes) =
    let whole = sum_by-cons (λ a. count_by (p a) (x ∷ xs)) a nodes in
    let left = sum_by-cons (λ a. one_if (p a x)) a nodes in
    let right = sum_by-cons (λ a. count_by (p a) xs) a nodes in
    let here = sum_by-cons (λ y. one_if (p a y)) x xs in
    let rest = sum-count-cons p x xs nodes in
    omega (arith, whole, left, right, here, rest)

-- at most one of the distinct nodes passes
pub one-passes : (p : ℕ → Bool) (c : ℕ) → ((a : ℕ) → p a ≡ true → a ≡ c) → (nodes : List ℕ) → IsOnce nodes → sum_by (λ a. one_if (p a)) nodes ≤ 1
one-passes p c only [] once = omega arith
one-passes p c only (y ∷ ys) once =
    let parts = sum_by-cons (λ a. one_if (p a)) y ys in
    elim (cases_Bool (p y)) [
      | inl passes ↦
          let none = sum-zero (λ a. one_if (p a)) ys (λ a h.
          let fails : p a ≡ false = false_from_ne_true (p a) (λ also. once-head y ys a once h (only y passes ∙ sym (only a also))) in
          rw fails refl) in
          let one : one_if (p y) ≡ 1 = rw passes refl in
          omega (arith, parts, none, one)
      | inr fails ↦
          let none : one_if (p y) ≡ 0 = rw fails refl in
          let rest = one-passes p c only ys (once-tail y ys once) in
          omega (arith, parts, none, rest)
    ]

-- counts over distinct nodes, where each element passes at one node at most, are no more than the elements
pub sum-count-le : {X : Type 0} (p : ℕ → X → Bool) (key : X → ℕ) → ((a : ℕ) (x : X) → p a x ≡ true → a ≡ key x) → (nodes : List ℕ) → IsOnce nodes → (xs : List X) → sum_by (λ a. count_by (p a) xs) nodes ≤ length xs
sum-count-le p key only nodes once [] = let none = sum-zero (λ a. 0) nodes (λ a h. refl) in omega (arith, none)
sum-count-le p key only nodes once (x ∷ xs) =
    let parts = sum-count-cons p x xs nodes in
    let one = one-passes (λ a. p a x) (key x) (λ a yes. only a x yes) nodes once in
    let rest = sum-count-le p key only nodes once xs in
    omega (arith, parts, one, rest)

-- and where each element passes at one node, they are all of them
pub sum-count-all : {X : Type 0} (p : ℕ → X → Bool) (key : X → ℕ) → ((a : ℕ) (x : X) → p a x ≡ true → a ≡ key x) → ((x : X) → p (key x) x ≡ true) → (nodes : List ℕ) → IsOnce nodes → (xs : List X) → All (λ x. Contains nodes (key x)) xs → sum_by (λ a. count_by (p a) xs) nodes ≡ length xs
sum-count-all p key only passes nodes once [] h = sum-zero (λ a. 0) nodes (λ a h. refl)
sum-count-all p key only passes nodes once (x ∷ xs) h =
    let parts = sum-count-cons p x xs nodes in
    let most = one-passes (λ a. p a x) (key x) (λ a same. only a x same) nodes once in
    let least = term-le-sum (λ a. one_if (p a x)) nodes (key x) (All-head (λ y. Contains nodes (key y)) x xs h) in
    let one : one_if (p (key x) x) ≡ 1 = rw (passes x) refl in
    let rest = sum-count-all p key only passes nodes once xs (All-tail (λ y. Contains nodes (key y)) x xs h) in
    omega (arith, parts, most, least, one, rest)

-- distinct numbers below n are n at most
pub length-once : (xs : List ℕ) (n : ℕ) → IsOnce xs → All (λ x. x < n) xs → length xs ≤ n
length-once xs n once below =
    length-le_from_distinct_below xs n
    (IsDistinct-from_apart eqb xs (λ i j d lt in_list. ne_eqb _ _ (once i j d lt in_list)))
    (λ q h. All-contains (λ (x : ℕ). x < n) xs q below (has-any xs q h))
