-- What the nearest number that passes a test is.
use Rattle.std.proofs.Common.{◌≡◌, ℕ, zero, suc, ◌+◌, ◌<◌, ◌≤◌, Bool, true, false, cond, inl, inr, arith, refl, sym, subst}
use Rattle.std.specs.Prelude.{Some}
use Rattle.std.proofs.lemmas.Bool.{cases_eq}
use Rattle.graph_model.specs.FirstLast.{last_below, first_from}

-- what is found as the last number below n that passes, where it is the one given
pub record IsLast (test : ℕ → Bool) (n last : ℕ) : Type 0 where
  pub below : last < n
  pub passes : test last ≡ true
  pub none_between : (k : ℕ) → last < k → k < n → test k ≡ false

-- the first of n numbers from the one on
pub record IsFirst (test : ℕ → Bool) (n from first : ℕ) : Type 0 where
  pub not_before : from ≤ first
  pub before_end : first < from + n
  pub passes : test first ≡ true
  pub none_between : (k : ℕ) → from ≤ k → k < first → test k ≡ false

last_step : (test : ℕ → Bool) (n last : ℕ) (b : Bool) → test n ≡ b → (last_below test n ≡ Some last → IsLast test n last) → cond b (Some n) (last_below test n) ≡ Some last → IsLast test (suc n) last
last_step test n last true e rest h =
    let same : n ≡ last = cc in
    record {
      below = omega (arith, same);
      passes = subst (λ (k : ℕ). test k ≡ true) same e;
      none_between = λ k above below. absurd (omega (arith, above, below, same));
    }
last_step test n last false e rest h =
    let r = rest h in
    let lt = r.below in
    record {
      below = omega (arith, lt);
      passes = r.passes;
      none_between = λ k above below. elim (cases_eq k n) [ inl same ↦ subst (λ (z : ℕ). test z ≡ false) (sym same) e | inr other ↦ r.none_between k above (omega (arith, below, other)) ];
    }

pub last_below-some : (test : ℕ → Bool) (n last : ℕ) → last_below test n ≡ Some last → IsLast test n last
last_below-some test zero last h = absurd cc
last_below-some test (suc n) last h = last_step test n last (test n) refl (last_below-some test n last) h

-- where one passes, the last is found, and isn't before it
last_found_step : (test : ℕ → Bool) (n k : ℕ) (b : Bool) → test n ≡ b → k < suc n → test k ≡ true → (k < n → (last : ℕ) × (last_below test n ≡ Some last) × (k ≤ last)) →
    (last : ℕ) × (cond b (Some n) (last_below test n) ≡ Some last) × (k ≤ last)
last_found_step test n k true e lt p rest = (n, refl, omega (arith, lt))
last_found_step test n k false e lt p rest = elim (cases_eq k n) [
  | inl same ↦ let both : test k ≡ false = subst (λ (z : ℕ). test z ≡ false) (sym same) e in absurd cc
  | inr other ↦ rest (omega (arith, lt, other))
]

pub last_found : (test : ℕ → Bool) (n k : ℕ) → k < n → test k ≡ true → (last : ℕ) × (last_below test n ≡ Some last) × (k ≤ last)
last_found test zero k lt p = absurd (omega (arith, lt))
last_found test (suc n) k lt p = last_found_step test n k (test n) refl lt p (λ below. last_found test n k below p)

first_step : (test : ℕ → Bool) (n from first : ℕ) (b : Bool) → test from ≡ b → (first_from test n (suc from) ≡ Some first → IsFirst test n (suc from) first) →
    cond b (Some from) (first_from test n (suc from)) ≡ Some first → IsFirst test (suc n) from first
first_step test n from first true e rest h =
    let same : from ≡ first = cc in
    record {
      not_before = omega (arith, same);
      before_end = omega (arith, same);
      passes = subst (λ (k : ℕ). test k ≡ true) same e;
      none_between = λ k above below. absurd (omega (arith, above, below, same));
    }
first_step test n from first false e rest h =
    let r = rest h in
    let lt = r.not_before in
    let end = r.before_end in
    record {
      not_before = omega (arith, lt);
      before_end = omega (arith, end);
      passes = r.passes;
      none_between = λ k above below. elim (cases_eq k from) [ inl same ↦ subst (λ (z : ℕ). test z ≡ false) (sym same) e | inr other ↦ r.none_between k (omega (arith, above, other)) below ];
    }

pub first_from-some : (test : ℕ → Bool) (n from first : ℕ) → first_from test n from ≡ Some first → IsFirst test n from first
first_from-some test zero from first h = absurd cc
first_from-some test (suc n) from first h = first_step test n from first (test from) refl (first_from-some test n (suc from) first) h

first_found_step : (test : ℕ → Bool) (n from k : ℕ) (b : Bool) → test from ≡ b → from ≤ k → test k ≡ true →
    (suc from ≤ k → (first : ℕ) × (first_from test n (suc from) ≡ Some first) × (first ≤ k)) →
    (first : ℕ) × (cond b (Some from) (first_from test n (suc from)) ≡ Some first) × (first ≤ k)
first_found_step test n from k true e ge p rest = (from, refl, ge)
first_found_step test n from k false e ge p rest = elim (cases_eq k from) [
  | inl same ↦ let both : test k ≡ false = subst (λ (z : ℕ). test z ≡ false) (sym same) e in absurd cc
  | inr other ↦ rest (omega (arith, ge, other))
]

-- where one passes, the first is found, and isn't behind it
pub first_found : (test : ℕ → Bool) (n from k : ℕ) → from ≤ k → k < from + n → test k ≡ true → (first : ℕ) × (first_from test n from ≡ Some first) × (first ≤ k)
first_found test zero from k ge lt p = absurd (omega (arith, ge, lt))
first_found test (suc n) from k ge lt p = first_found_step test n from k (test from) refl ge p (λ after. first_found test n (suc from) k after (omega (arith, lt)) p)
