-- Sums over the numbers below a bound, and over rows of such sums.
use Rattle.std.proofs.Common.{◌≡◌, ◌∙◌, ℕ, zero, suc, ◌+◌, ◌/◌, ◌%◌, ◌-◌, ◌<◌, List, [], ◌∷◌, get_or, length, refl, sym, ap, arith, inl, inr}
use Rattle.std.specs.Prelude.{◌≢◌}
use Rattle.std.specs.List.{sum_by}
use Rattle.std.proofs.lemmas.Bool.{cases_lt}
use Rattle.std.proofs.lemmas.List.Sums.{sum_by-cons}
use Rattle.std.proofs.lemmas.Nat.{div-add-mod', mod_below, same_from_place}
use Rattle.chunk_pool.specs.Chunks.{sum_below}

pub sum_same : (f g : ℕ → ℕ) (n : ℕ) → ((k : ℕ) → k < n → f k ≡ g k) → sum_below f n ≡ sum_below g n
sum_same f g zero same = refl
sum_same f g (suc n) same =
    let more = sum_same f g n (λ k below. same k (omega (arith, below))) in
    let here = same n (omega arith) in
    omega (arith, more, here)

pub sum_zero : (n : ℕ) → sum_below (λ k. 0) n ≡ 0
sum_zero zero = refl
sum_zero (suc n) = omega (arith, sum_zero n)

sum_add : (f g : ℕ → ℕ) (n : ℕ) → sum_below (λ k. f k + g k) n ≡ sum_below f n + sum_below g n
sum_add f g zero = refl
sum_add f g (suc n) = omega (arith, sum_add f g n)

-- where one summand changes, the sum changes as it does
pub sum_changed : (f g : ℕ → ℕ) (at n : ℕ) → at < n → ((k : ℕ) → k ≢ at → g k ≡ f k) → sum_below g n + f at ≡ sum_below f n + g at
sum_changed f g at zero below same = absurd (omega (arith, below))
sum_changed f g at (suc n) below same = elim (cases_lt at n) [
  | inl lower ↦
      let more = sum_changed f g at n lower same in
      let here = same n (λ is. omega (arith, lower, is)) in
      omega (arith, more, here)
  | inr upper ↦
      let e : at ≡ n = omega (arith, below, upper) in
      let more = sum_same g f n (λ k under. same k (λ is. omega (arith, under, is, e))) in
      let old = ap f e in
      let new = ap g e in
      omega (arith, more, old, new)
]

-- a sum of which one summand alone is left
sum_of_one : (f : ℕ → ℕ) (at n : ℕ) → at < n → ((k : ℕ) → k ≢ at → f k ≡ 0) → sum_below f n ≡ f at
sum_of_one f at n below none =
    let changed = sum_changed (λ k. 0) f at n below none in
    let zero_sum = sum_zero n in
    omega (arith, changed, zero_sum)

-- rows and columns are summed in either order
sum_turned : (f : ℕ → ℕ → ℕ) (m n : ℕ) → sum_below (λ a. sum_below (f a) n) m ≡ sum_below (λ b. sum_below (λ a. f a b) m) n
sum_turned f m zero = sum_zero m
sum_turned f m (suc n) =
    let more = sum_turned f m n in
    let split = sum_add (λ a. sum_below (f a) n) (λ a. f a n) m in
    omega (arith, more, split)

-- where each number has summands in one row alone, that of its rest, the sum of all rows is the sum of these
pub sum_of_rests : (f : ℕ → ℕ → ℕ) (rows n : ℕ) → 0 < rows → ((row k : ℕ) → k % rows ≢ row → f row k ≡ 0) → sum_below (λ row. sum_below (f row) n) rows ≡ sum_below (λ k. f (k % rows) k) n
sum_of_rests f rows n some none =
    sum_turned f rows n
    ∙ sum_same (λ k. sum_below (λ row. f row k) rows) (λ k. f (k % rows) k) n
    (λ k below. sum_of_one (λ row. f row k) (k % rows) rows (mod_below k rows some) (λ row other. none row k (λ is. other (sym is))))

sum_front : (f : ℕ → ℕ) (n : ℕ) → sum_below f (suc n) ≡ f 0 + sum_below (λ k. f (suc k)) n
sum_front f zero = omega arith
sum_front f (suc n) = omega (arith, sum_front f n)

-- the sum over a list, by places
pub sum_by_places : {X : Type 0} (h : X → ℕ) (xs : List X) (d : X) → sum_by h xs ≡ sum_below (λ k. h (get_or xs k d)) (length xs)
sum_by_places h [] d = refl
sum_by_places h (x ∷ xs) d =
    let first = sum_by-cons h x xs in
    let more = sum_by_places h xs d in
    let front = sum_front (λ k. h (get_or (x ∷ xs) k d)) (length xs) in
    omega (arith, first, more, front)

-- between a number and the next with the same rest there is none
pub rests_apart : (rows rest number k : ℕ) → 0 < rows → number % rows ≡ rest → number < k → k < number + rows → k % rows ≢ rest
rests_apart rows rest number k some is above below also =
    let here = div-add-mod' number rows in
    let there = div-add-mod' k rows in
    let same = same_from_place (number / rows) (k - number) (k / rows) 0 rows (omega (arith, above, below)) some (omega (arith, here, there, is, also, above)) in
    omega (arith, same.1, above)
