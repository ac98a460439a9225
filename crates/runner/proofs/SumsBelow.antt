-- Sums over the numbers below one.
use Rattle.std.proofs.Common.{◌≡◌, ℕ, zero, suc, ◌+◌, ◌<◌, Bool, cond, refl, ap, arith, ⊎_elim}
use Rattle.std.specs.Prelude.{◌==◌}
use Rattle.std.proofs.lemmas.Bool.{cases_eq, eq-eqb, ne_eqb}

abbrev pub sum_below : ℕ → (ℕ → ℕ) → ℕ
sum_below zero f = 0
sum_below (suc n) f = sum_below n f + f n

pub sum_below-same : (n : ℕ) (f g : ℕ → ℕ) → ((k : ℕ) → k < n → f k ≡ g k) → sum_below n f ≡ sum_below n g
sum_below-same zero f g same = refl
sum_below-same (suc n) f g same =
    let before = sum_below-same n f g (λ k below. same k (omega (arith, below))) in
    let last = same n (omega arith) in
    omega (arith, before, last)

pub sum_below-add : (n : ℕ) (f g : ℕ → ℕ) → sum_below n (λ k. f k + g k) ≡ sum_below n f + sum_below n g
sum_below-add zero f g = refl
sum_below-add (suc n) f g = let before = sum_below-add n f g in omega (arith, before)

pub sum_below-none : (n : ℕ) (f : ℕ → ℕ) → ((k : ℕ) → k < n → f k ≡ 0) → sum_below n f ≡ 0
sum_below-none zero f none = refl
sum_below-none (suc n) f none =
    let before = sum_below-none n f (λ k below. none k (omega (arith, below))) in
    let last = none n (omega arith) in
    omega (arith, before, last)

-- the first of them apart
pub sum_below-first : (n : ℕ) (f : ℕ → ℕ) → sum_below (suc n) f ≡ f 0 + sum_below n (λ k. f (suc k))
sum_below-first zero f = omega arith
sum_below-first (suc n) f = let before = sum_below-first n f in omega (arith, before)

-- one of them alone
pub sum_below-one : (n j x : ℕ) → j < n → sum_below n (λ k. cond (j == k) x 0) ≡ x
sum_below-one zero j x below = absurd (omega (arith, below))
sum_below-one (suc n) j x below = ⊎_elim
    (λ (same : j ≡ n).
    let before = sum_below-none n (λ k. cond (j == k) x 0) (λ k under. ap (λ (b : Bool). cond b x 0) (ne_eqb j k (λ (e : j ≡ k). absurd (omega (arith, e, same, under))))) in
    let last = ap (λ (b : Bool). cond b x 0) (eq-eqb j n same) in
    omega (arith, before, last))
    (λ (other : j ≡ n → ⊥).
    let before = sum_below-one n j x (omega (arith, below, other)) in
    let last = ap (λ (b : Bool). cond b x 0) (ne_eqb j n other) in
    omega (arith, before, last))
    (cases_eq j n)
