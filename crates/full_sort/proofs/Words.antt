-- Single bits of a list of words.
use Rattle.std.proofs.Common.{◌≡◌, ◌≢◌, ◌∙◌, ℕ, ◌+◌, ◌*◌, ◌/◌, ◌%◌, ◌^◌, ◌<◌, List, length, get_or, set, sym, ap, subst, arith, inl, inr, bit_or, bit_and, w64, get_or-set_same, get_or-set_other, length-set, Some}
use Rattle.std.specs.Int.Bits.{or_zero_r}
use Rattle.std.proofs.lemmas.List.{set-get_or}
use Rattle.std.proofs.lemmas.Nat.{and_mask}
use Rattle.std.specs.Int.{bit_at, bit_not, trailing_zeros}
use Rattle.std.proofs.lemmas.Bool.{cases_eq, cases_lt}
use Rattle.std.proofs.lemmas.Nat.Bits.{bit_at_set_same, bit_at_set_other, bit_at_clear_same, bit_at_clear_other, bit_at-zero, bit_at-trailing_zeros}
use Rattle.full_sort.specs.Bits.{bit_of, ChangesBit, IsFirstBit}

mod_below : (w : ℕ) → w < 2 ^ 64 → w % 2 ^ 64 ≡ w
mod_below w lt = omega (arith, lt)

-- a number by its word and its place there
pub word-is : (q r : ℕ) → r < 64 → (64 * q + r) / 64 ≡ q
word-is q r lt = omega (arith, lt)

pub place-is : (q r : ℕ) → r < 64 → (64 * q + r) % 64 ≡ r
place-is q r lt = omega (arith, lt)

-- a written word keeps the bits of the others
module _ (words : List ℕ) (n word : ℕ) (inside : n / 64 < length words) where
  at-written : bit_of (set words (n / 64) word) n ≡ bit_at word (n % 64)
  at-written = ap (λ (w : ℕ). bit_at w (n % 64)) (get_or-set_same words (n / 64) word 0 inside)

  other-written : ((i : ℕ) → i < 64 → i ≢ n % 64 → bit_at word i ≡ bit_at (get_or words (n / 64) 0) i) → (m : ℕ) → m ≢ n → bit_of (set words (n / 64) word) m ≡ bit_of words m
  other-written keeps m other = elim (cases_eq (m / 64) (n / 64)) [
    | inl same ↦
        let place : m % 64 ≢ n % 64 = λ e. other (omega (arith, e, same)) in
        subst (λ (q : ℕ). bit_at (get_or (set words (n / 64) word) q 0) (m % 64) ≡ bit_at (get_or words q 0) (m % 64)) (sym same)
        (ap (λ (w : ℕ). bit_at w (m % 64)) (get_or-set_same words (n / 64) word 0 inside) ∙ keeps (m % 64) (omega arith) place)
    | inr apart ↦ ap (λ (w : ℕ). bit_at w (m % 64)) (get_or-set_other words (n / 64) (m / 64) word 0 apart)
  ]

pub changes-set : (words : List ℕ) (n : ℕ) → n / 64 < length words → ChangesBit words (set words (n / 64) (bit_or (get_or words (n / 64) 0) (1 * 2 ^ (n % 64) % 2 ^ 64))) n 1
changes-set words n inside = record {
  room = length-set words (n / 64) (bit_or (get_or words (n / 64) 0) (1 * 2 ^ (n % 64) % 2 ^ 64));
  at = at-written words n (bit_or (get_or words (n / 64) 0) (1 * 2 ^ (n % 64) % 2 ^ 64)) inside ∙ bit_at_set_same w64 (get_or words (n / 64) 0) (n % 64) (omega arith);
  others = other-written words n (bit_or (get_or words (n / 64) 0) (1 * 2 ^ (n % 64) % 2 ^ 64)) inside (λ i lt other. bit_at_set_other w64 (get_or words (n / 64) 0) (n % 64) (omega arith) i other);
  words = λ j apart. get_or-set_other words (n / 64) j (bit_or (get_or words (n / 64) 0) (1 * 2 ^ (n % 64) % 2 ^ 64)) 0 apart;
}

pub changes-clear : (words : List ℕ) (n : ℕ) → n / 64 < length words → ChangesBit words (set words (n / 64) (bit_and (get_or words (n / 64) 0) (bit_not w64 (1 * 2 ^ (n % 64) % 2 ^ 64)))) n 0
changes-clear words n inside = record {
  room = length-set words (n / 64) (bit_and (get_or words (n / 64) 0) (bit_not w64 (1 * 2 ^ (n % 64) % 2 ^ 64)));
  at = at-written words n (bit_and (get_or words (n / 64) 0) (bit_not w64 (1 * 2 ^ (n % 64) % 2 ^ 64))) inside ∙ bit_at_clear_same w64 (get_or words (n / 64) 0) (n % 64) (omega arith);
  others = other-written words n (bit_and (get_or words (n / 64) 0) (bit_not w64 (1 * 2 ^ (n % 64) % 2 ^ 64))) inside (λ i lt other. bit_at_clear_other w64 (get_or words (n / 64) 0) (n % 64) (omega arith) i lt other);
  words = λ j apart. get_or-set_other words (n / 64) j (bit_and (get_or words (n / 64) 0) (bit_not w64 (1 * 2 ^ (n % 64) % 2 ^ 64))) 0 apart;
}

-- a word that is written as it was
pub kept-set : (words : List ℕ) (j : ℕ) → set words j (bit_or (get_or words j 0) 0) ≡ words
kept-set words j = ap (set words j) (or_zero_r (get_or words j 0)) ∙ set-get_or words j 0

pub kept-clear : (words : List ℕ) (j : ℕ) → get_or words j 0 < 2 ^ 64 → set words j (bit_and (get_or words j 0) (bit_not w64 0)) ≡ words
kept-clear words j fits = ap (set words j) (and_mask (get_or words j 0) 64 ∙ (let w : ℕ = get_or words j 0 in mod_below w fits)) ∙ set-get_or words j 0

-- the lowest bit of the first word that isn't 0
pub lowest-at : (words : List ℕ) (i : ℕ) → get_or words i 0 < 2 ^ 64 → 0 < get_or words i 0 → bit_of words (64 * i + trailing_zeros w64 (get_or words i 0)) ≡ 1
lowest-at words i fits some =
    let low = bit_at-trailing_zeros w64 (get_or words i 0) some fits in
    let t : ℕ = trailing_zeros w64 (get_or words i 0) in
    subst (λ (q : ℕ). bit_at (get_or words q 0) ((64 * i + t) % 64) ≡ 1) (sym (word-is i t low.0))
    (subst (λ (r : ℕ). bit_at (get_or words i 0) r ≡ 1) (sym (place-is i t low.0)) low.1)

pub lowest-below : (words : List ℕ) (i : ℕ) → get_or words i 0 < 2 ^ 64 → 0 < get_or words i 0 → ((j : ℕ) → j < i → get_or words j 0 ≡ 0) → (m : ℕ) → m < 64 * i + trailing_zeros w64 (get_or words i 0) → bit_of words m ≡ 0
lowest-below words i fits some zeros m lt =
    let low = bit_at-trailing_zeros w64 (get_or words i 0) some fits in
    let t : ℕ = trailing_zeros w64 (get_or words i 0) in
    let short : t < 64 = low.0 in
    let below : m < 64 * i + t = lt in
    elim (cases_lt (m / 64) i) [
      | inl before ↦ ap (λ (w : ℕ). bit_at w (m % 64)) (zeros (m / 64) before) ∙ bit_at-zero (m % 64)
      | inr after ↦
          let same : m / 64 ≡ i = omega (arith, after, below, short) in
          let place : m % 64 < t = omega (arith, same, below) in
          ap (λ (q : ℕ). bit_at (get_or words q 0) (m % 64)) same ∙ low.2 (m % 64) place
    ]

pub first-found : (words : List ℕ) (i : ℕ) → get_or words i 0 < 2 ^ 64 → 0 < get_or words i 0 → ((j : ℕ) → j < i → get_or words j 0 ≡ 0) → IsFirstBit words (Some (64 * i + trailing_zeros w64 (get_or words i 0)))
first-found words i fits some zeros = (lowest-at words i fits some, lowest-below words i fits some zeros)
