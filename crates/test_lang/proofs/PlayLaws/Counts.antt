-- Counts of the nodes that pass a test.
use Rattle.std.proofs.Common.{◌≡◌, ℕ, zero, suc, ◌+◌, ◌<◌, Bool, true, false, cond, inl, inr, arith, refl, sym, ap, subst}
use Rattle.std.specs.Prelude.{count_by}
use Rattle.std.proofs.lemmas.Bool.{cases_eq}
use Rattle.std.proofs.lemmas.List.Sums.{sum_by_push}
use Rattle.orders.specs.Orders.{nodes_below}

-- what a node adds to a count
abbrev unit : Bool → ℕ
unit b = cond b 1 0

one_more : (test : ℕ → Bool) (n : ℕ) → count_by test (nodes_below (suc n)) ≡ count_by test (nodes_below n) + unit (test n)
one_more test n = sum_by_push (λ x. cond (test x) 1 0) (nodes_below n) n

-- tests that agree
pub count_same : (f g : ℕ → Bool) (n : ℕ) → ((k : ℕ) → k < n → f k ≡ g k) → count_by f (nodes_below n) ≡ count_by g (nodes_below n)
count_same f g zero same = refl
count_same f g (suc n) same =
    let rest = count_same f g n (λ k lt. same k (omega (arith, lt))) in
    let here = ap unit (same n (omega arith)) in
    let left = one_more f n in
    let right = one_more g n in
    omega (arith, rest, here, left, right)

-- tests that agree but at one node, which passes the first alone
pub count_less : (f g : ℕ → Bool) (n x : ℕ) → x < n → f x ≡ true → g x ≡ false → ((k : ℕ) → (k ≡ x → ⊥) → f k ≡ g k) → count_by g (nodes_below n) + 1 ≡ count_by f (nodes_below n)
count_less f g zero x lt passed failed same = absurd (omega (arith, lt))
count_less f g (suc n) x lt passed failed same =
    let left = one_more f n in
    let right = one_more g n in
    elim (cases_eq x n) [
      | inl is ↦
          let rest = count_same f g n (λ k below. same k (λ e. omega (arith, below, e, is))) in
          let one = ap unit (subst (λ (k : ℕ). f k ≡ true) is passed) in
          let none = ap unit (subst (λ (k : ℕ). g k ≡ false) is failed) in
          omega (arith, rest, one, none, left, right)
      | inr apart ↦
          let rest = count_less f g n x (omega (arith, lt, apart)) passed failed same in
          let here = ap unit (same n (λ e. apart (sym e))) in
          omega (arith, rest, here, left, right)
    ]

small : (b : Bool) → unit b ≡ 0 → b ≡ false
small true e = absurd (omega (arith, e))
small false e = refl

-- where none is counted, none passes
pub count_none : (test : ℕ → Bool) (n : ℕ) → count_by test (nodes_below n) ≡ 0 → (k : ℕ) → k < n → test k ≡ false
count_none test zero e k lt = absurd (omega (arith, lt))
count_none test (suc n) e k lt =
    let more = one_more test n in
    let before : count_by test (nodes_below n) ≡ 0 = omega (arith, e, more) in
    let here : unit (test n) ≡ 0 = omega (arith, e, more) in
    elim (cases_eq k n) [
      | inl is ↦ subst (λ (j : ℕ). test j ≡ false) (sym is) (small (test n) here)
      | inr apart ↦ count_none test n before k (omega (arith, lt, apart))
    ]

-- where none passes, none is counted
pub none_count : (test : ℕ → Bool) (n : ℕ) → ((k : ℕ) → k < n → test k ≡ false) → count_by test (nodes_below n) ≡ 0
none_count test zero none = refl
none_count test (suc n) none =
    let rest = none_count test n (λ k lt. none k (omega (arith, lt))) in
    let here = ap unit (none n (omega arith)) in
    let more = one_more test n in
    omega (arith, rest, here, more)
