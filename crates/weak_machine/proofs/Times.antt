-- How often a list has a number.
use Rattle.std.proofs.Common.{◌≡◌, ℕ, ◌+◌, ◌<◌, List, [], ◌∷◌, false, Contains, cond, refl, ap, arith, inl, inr}
use Rattle.std.specs.Prelude.{◌==◌, count_by}
use Rattle.std.proofs.lemmas.Bool.{cases_Bool, eqb-true, eq-eqb}
use Rattle.std.proofs.lemmas.List.Sums.{sum_by-cons}
use Rattle.orders.proofs.Members.{Contains-nil, Contains-head, Contains-tail, Contains-cons_cases}
use Rattle.test_lang.specs.Play.States.{has}
use Rattle.test_lang.proofs.PlayLaws.Lasts.{has_true}

-- it doesn't
pub lacks : (xs : List ℕ) (x : ℕ) → (Contains xs x → ⊥) → has xs x ≡ false
lacks xs x no_member = elim (cases_Bool (has xs x)) [ inl h ↦ absurd (no_member (has_true xs x h)) | inr h ↦ h ]

pub count-cons : (x y : ℕ) (xs : List ℕ) → count_by (λ n. n == x) (y ∷ xs) ≡ cond (y == x) 1 0 + count_by (λ n. n == x) xs
count-cons x y xs = sum_by-cons (λ n. cond (n == x) 1 0) y xs

pub count-some : (xs : List ℕ) (x : ℕ) → Contains xs x → 0 < count_by (λ n. n == x) xs
count-some [] x there = absurd (Contains-nil x there)
count-some (y ∷ ys) x there = elim (Contains-cons_cases y ys x there) [
  | inl is ↦ let one : cond {A = ℕ} (y == x) 1 0 ≡ 1 = ap (λ b. cond {A = ℕ} b 1 0) (eq-eqb y x is) in let all = count-cons x y ys in omega (arith, one, all)
  | inr more ↦ let rest = count-some ys x more in let all = count-cons x y ys in omega (arith, rest, all)
]

pub count-none : (xs : List ℕ) (x : ℕ) → (Contains xs x → ⊥) → count_by (λ n. n == x) xs ≡ 0
count-none [] x lacks = refl
count-none (y ∷ ys) x lacks = elim (cases_Bool (y == x)) [
  | inl h ↦ absurd (lacks (Contains-head y ys x (eqb-true y x h)))
  | inr h ↦
      let none : cond {A = ℕ} (y == x) 1 0 ≡ 0 = ap (λ b. cond {A = ℕ} b 1 0) h in
      let rest = count-none ys x (λ there. lacks (Contains-tail y ys x there)) in
      let all = count-cons x y ys in omega (arith, none, rest, all)
]
