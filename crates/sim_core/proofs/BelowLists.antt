-- Lists over the numbers below one.
use Rattle.std.proofs.Common.{◌≡◌, ◌≢◌, ◌∙◌, ℕ, zero, suc, ◌+◌, ◌<◌, ◌≤◌, List, [], ◌∷◌, ◌++◌, map, length, get_or, set, Bool, true, false, cond, Some, inl, inr, arith, refl, sym, ap, subst, get_or-set_same, get_or-set_other, length-set, length-append, replicate}
use Rattle.std.specs.Prelude.{filter, slice_get}
use Rattle.std.specs.List.{flat_map}
use Rattle.std.proofs.lemmas.Bool.{cases_eq, cases_lt}
use Rattle.std.proofs.lemmas.Grind.{flat_map-append}
use Rattle.std.proofs.lemmas.List.{append-nil, get_or-map, get_or_at, length-map, map-append, same_lists}
use Rattle.std.proofs.lemmas.List.Concat.{flat_map-cons}
use Rattle.std.proofs.lemmas.List.Elements.{filter-append}
use Rattle.std.proofs.Math.ListN.{get_or-append}
use Rattle.orders.specs.Orders.{nodes_below}
use Rattle.orders.proofs.Below.{length-below}
use Rattle.test_lang.proofs.Places.{slice_get-append_left}

pub get_or-below : (n k d : ℕ) → k < n → get_or (nodes_below n) k d ≡ k
get_or-below zero k d lt = absurd (omega (arith, lt))
get_or-below (suc n) k d lt = elim (cases_lt k n) [
  | inl before ↦ let long = length-below n in get_or-append (nodes_below n) (n ∷ []) d k (omega (arith, before, long)) ∙ get_or-below n k d before
  | inr after ↦ let long = length-below n in get_or_at (nodes_below n) n [] d k (omega (arith, lt, after, long)) ∙ omega (arith, lt, after)
]

-- images of the numbers below one

pub length-map_below : {X : Type 0} (f : ℕ → X) (n : ℕ) → length (map f (nodes_below n)) ≡ n
length-map_below f n = length-map (nodes_below n) f ∙ length-below n

pub get_or-map_below : {X : Type 0} (f : ℕ → X) (n k : ℕ) (d : X) → k < n → get_or (map f (nodes_below n)) k d ≡ f k
get_or-map_below f n k d lt = let long = length-below n in get_or-map f (nodes_below n) k 0 d (omega (arith, lt, long)) ∙ ap f (get_or-below n k 0 lt)

-- a list by what it has at each place
pub is-map_below : {X : Type 0} (f : ℕ → X) (n : ℕ) (xs : List X) → length xs ≡ n → ((k : ℕ) (d : X) → k < n → get_or xs k d ≡ f k) → xs ≡ map f (nodes_below n)
is-map_below {X} f n xs long at =
    same_lists xs (map f (nodes_below n)) (long ∙ sym (length-map_below f n))
    (λ (k : ℕ) (d : X) (lt : k < length xs). let below : k < n = omega (arith, lt, long) in at k d below ∙ sym (get_or-map_below f n k d below))

pub map-same_below : {X : Type 0} (f g : ℕ → X) (n : ℕ) → ((k : ℕ) → k < n → f k ≡ g k) → map f (nodes_below n) ≡ map g (nodes_below n)
map-same_below {X} f g n same = is-map_below g n (map f (nodes_below n)) (length-map_below f n) (λ (k : ℕ) (d : X) (lt : k < n). get_or-map_below f n k d lt ∙ same k lt)

pub map_below-push : {X : Type 0} (f : ℕ → X) (n : ℕ) → map f (nodes_below n) ++ f n ∷ [] ≡ map f (nodes_below (n + 1))
map_below-push f n = let one : n + 1 ≡ suc n = omega arith in sym (ap (λ (m : ℕ). map f (nodes_below m)) one ∙ map-append f (nodes_below n) (n ∷ []))

-- functions that agree but at one place
pub map-changed : {X : Type 0} (f g : ℕ → X) (n k : ℕ) → k < n → ((j : ℕ) → j < n → j ≢ k → g j ≡ f j) → map g (nodes_below n) ≡ set (map f (nodes_below n)) k (g k)
map-changed {X} f g n k lt same = sym (is-map_below g n (set (map f (nodes_below n)) k (g k)) (length-set (map f (nodes_below n)) k (g k) ∙ length-map_below f n) at) where
  at : (j : ℕ) (d : X) → j < n → get_or (set (map f (nodes_below n)) k (g k)) j d ≡ g j
  at j d below = elim (cases_eq j k) [
    | inl is ↦
        let long = length-map_below f n in
        subst (λ (i : ℕ). get_or (set (map f (nodes_below n)) k (g k)) i d ≡ g i) (sym is) (get_or-set_same (map f (nodes_below n)) k (g k) d (omega (arith, lt, long)))
    | inr other ↦ get_or-set_other (map f (nodes_below n)) k j (g k) d other ∙ get_or-map_below f n j d below ∙ sym (same j below other)
  ]

-- a function that is constant
pub map-constant : {X Y : Type 0} (f : X → Y) (c : Y) (xs : List X) → ((x : X) → f x ≡ c) → map f xs ≡ replicate (length xs) c
map-constant f c [] same = refl
map-constant {X} {Y} f c (x ∷ xs) same = ap (λ (y : Y). y ∷ map f xs) (same x) ∙ ap (λ (ys : List Y). c ∷ ys) (map-constant f c xs same)

pub map_below-constant : {Y : Type 0} (f : ℕ → Y) (c : Y) (n : ℕ) → ((x : ℕ) → f x ≡ c) → map f (nodes_below n) ≡ replicate n c
map_below-constant f c n same = map-constant f c (nodes_below n) same ∙ ap (λ (k : ℕ). replicate k c) (length-below n)

-- what a test keeps of lists

pub filter-none : {X : Type 0} (test : X → Bool) (xs : List X) → ((x : X) → test x ≡ false) → filter test xs ≡ []
filter-none test [] none = refl
filter-none test (x ∷ xs) none = ap (λ b. cond b (x ∷ filter test xs) (filter test xs)) (none x) ∙ filter-none test xs none

pub filter-map : {X Y : Type 0} (test : Y → Bool) (f : X → Y) (xs : List X) → filter test (map f xs) ≡ map f (filter (λ x. test (f x)) xs)
filter-map test f [] = refl
filter-map test f (x ∷ xs) = at (test (f x)) (filter-map test f xs) where
  at : (b : Bool) → filter test (map f xs) ≡ map f (filter (λ y. test (f y)) xs)
      → cond b (f x ∷ filter test (map f xs)) (filter test (map f xs)) ≡ map f (cond b (x ∷ filter (λ y. test (f y)) xs) (filter (λ y. test (f y)) xs))
  at true later = ap (λ ys. f x ∷ ys) later
  at false later = later

pub filter-flat_map : {X Y : Type 0} (test : Y → Bool) (f : X → List Y) (xs : List X) → filter test (flat_map f xs) ≡ flat_map (λ x. filter test (f x)) xs
filter-flat_map test f [] = refl
filter-flat_map {X} {Y} test f (x ∷ xs) =
    ap (filter test) (flat_map-cons f x xs)
    ∙ filter-append test (f x) (flat_map f xs)
    ∙ ap (λ (ys : List Y). filter test (f x) ++ ys) (filter-flat_map test f xs)
    ∙ sym (flat_map-cons (λ z. filter test (f z)) x xs)

-- lists that stand one behind the other, one for each number below one

pub flat_below-suc : {X : Type 0} (g : ℕ → List X) (n : ℕ) → flat_map g (nodes_below (suc n)) ≡ flat_map g (nodes_below n) ++ g n
flat_below-suc {X} g n =
    flat_map-append g (nodes_below n) (n ∷ [])
    ∙ ap (λ (ys : List X). flat_map g (nodes_below n) ++ ys) (flat_map-cons g n [] ∙ append-nil (g n))

pub length-flat_below : {X : Type 0} (g : ℕ → List X) (n : ℕ) → length (flat_map g (nodes_below (suc n))) ≡ length (flat_map g (nodes_below n)) + length (g n)
length-flat_below g n = ap length (flat_below-suc g n) ∙ length-append (flat_map g (nodes_below n)) (g n)

pub flat_below-le : {X : Type 0} (g : ℕ → List X) (k d : ℕ) → length (flat_map g (nodes_below k)) ≤ length (flat_map g (nodes_below (k + d)))
flat_below-le g k zero = let same : k + 0 ≡ k = omega arith in let e = ap (λ (n : ℕ). length (flat_map g (nodes_below n))) same in omega (arith, e)
flat_below-le g k (suc d) =
    let same : k + suc d ≡ suc (k + d) = omega arith in
    let e = ap (λ (n : ℕ). length (flat_map g (nodes_below n))) same in
    let more = length-flat_below g (k + d) in
    let before = flat_below-le g k d in
    omega (arith, e, more, before)

pub slice_get-append_right : {X : Type 0} (xs ys : List X) (k : ℕ) → slice_get (xs ++ ys) (length xs + k) ≡ slice_get ys k
slice_get-append_right [] ys k = ap (slice_get ys) (omega arith)
slice_get-append_right {X} (x ∷ xs) ys k =
    let more : length (x ∷ xs) + k ≡ suc (length xs + k) = omega arith in
    ap (slice_get (x ∷ (xs ++ ys))) more ∙ slice_get-append_right xs ys k

-- an element of one of them stands behind those before
pub flat_below-get : {X : Type 0} (g : ℕ → List X) (n k j : ℕ) (x : X) → k < n → slice_get (g k) j ≡ Some x → slice_get (flat_map g (nodes_below n)) (length (flat_map g (nodes_below k)) + j) ≡ Some x
flat_below-get g zero k j x lt e = absurd (omega (arith, lt))
flat_below-get {X} g (suc n) k j x lt e = elim (cases_lt k n) [
  | inl before ↦
      ap (λ (ys : List X). slice_get ys (length (flat_map g (nodes_below k)) + j)) (flat_below-suc g n)
      ∙ slice_get-append_left (flat_map g (nodes_below n)) (g n) (length (flat_map g (nodes_below k)) + j) x (flat_below-get g n k j x before e)
  | inr after ↦
      let last : k ≡ n = omega (arith, lt, after) in
      ap (λ (ys : List X). slice_get ys (length (flat_map g (nodes_below k)) + j)) (flat_below-suc g n)
      ∙ ap (λ (m : ℕ). slice_get (flat_map g (nodes_below n) ++ g n) (length (flat_map g (nodes_below m)) + j)) last
      ∙ slice_get-append_right (flat_map g (nodes_below n)) (g n) j
      ∙ ap (λ (m : ℕ). slice_get (g m) j) (sym last)
      ∙ e
]
