-- The last number below a bound that has a key.
use Rattle.std.proofs.Common.{◌≡◌, ◌≢◌, ◌∙◌, ℕ, suc, ◌+◌, ◌<◌, Option, Some, None, sym, ap, arith, inl, inr}
use Rattle.std.proofs.lemmas.Bool.{cases_eq}
use Rattle.digraph.specs.Digraph.{IsLastBelow, NoneHas}

-- it is the same where the keys below the bound are the same
pub last-same : (f g : ℕ → ℕ) (key bound : ℕ) (r : Option ℕ) → ((k : ℕ) → k < bound → g k ≡ f k) → IsLastBelow f key bound r → IsLastBelow g key bound r
last-same f g key bound None same h = λ k low lt is. h k low lt (sym (same k lt) ∙ is)
last-same f g key bound (Some e) same h = (h.0, same e h.0 ∙ h.1, λ k low lt is. h.2 k low lt (sym (same k lt) ∙ is))

-- a number that has another key may be passed over
none-more : (f : ℕ → ℕ) (key first bound : ℕ) → f bound ≢ key → NoneHas f key first bound → NoneHas f key first (bound + 1)
none-more f key first bound other none k low lt is = elim (cases_eq k bound) [
  | inl at ↦ other (ap f (sym at) ∙ is)
  | inr ne ↦ none k low (omega (arith, lt, ne)) is
]

pub last-more : (f : ℕ → ℕ) (key bound : ℕ) (r : Option ℕ) → f bound ≢ key → IsLastBelow f key bound r → IsLastBelow f key (bound + 1) r
last-more f key bound None other h = none-more f key 0 bound other h
last-more f key bound (Some e) other h = let below = h.0 in (omega (arith, below), h.1, none-more f key (suc e) bound other h.2)

-- the number at the bound is the last one that has its key
pub last-here : (f : ℕ → ℕ) (key bound : ℕ) → f bound ≡ key → IsLastBelow f key (bound + 1) (Some bound)
last-here f key bound is = (omega arith, is, λ k low lt at. omega (arith, low, lt))

-- one number less, which has another key
pub last-less : (f : ℕ → ℕ) (key bound : ℕ) (r : Option ℕ) → f bound ≢ key → IsLastBelow f key (bound + 1) r → IsLastBelow f key bound r
last-less f key bound None other h = λ k low lt is. h k low (omega (arith, lt)) is
last-less f key bound (Some e) other h = (
  elim (cases_eq e bound) [
    | inl same ↦ absurd (other (ap f (sym same) ∙ h.1))
    | inr differ ↦ (let lt = h.0 in omega (arith, lt, differ))
  ],
  h.1,
  λ k low lt is. h.2 k low (omega (arith, lt)) is,
)
