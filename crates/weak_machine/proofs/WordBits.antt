-- Single bits of words, and the bits of a word that are set.
use Rattle.std.proofs.Common.{◌≡◌, ◌≢◌, ◌∙◌, ℕ, zero, suc, ◌+◌, ◌-◌, ◌*◌, ◌/◌, ◌%◌, ◌^◌, ◌<◌, ◌≤◌, List, [], ◌∷◌, map, drop, length, get_or, set, Bool, true, false, cond, Some, sym, ap, subst, arith, refl, inl, inr, bit_or, bit_and, w64, get_or-set_same, get_or-set_other, length-set}
use Rattle.std.specs.Prelude.{◌==◌, filter, slice_get, count_ones}
use Rattle.std.specs.Int.{bit_at, bit_not, trailing_zeros}
use Rattle.std.specs.Int.Count.{ones, ones_in}
use Rattle.std.proofs.lemmas.Bool.{cases_eq, cases_lt}
use Rattle.std.proofs.lemmas.List.{length-map, length-drop}
use Rattle.std.proofs.lemmas.Nat.Bits.{bit_at_lowest, bit_at-suc, bit_at-zero, bit_at_above, bit_at_set_same, bit_at_set_other, bit_at_clear_same, bit_at_clear_other, bit_at-trailing_zeros, shr_and_one}
use Rattle.std.proofs.Math.Nat.{pow-suc}
use Rattle.orders.specs.Orders.{nodes_below}
use Rattle.weak_machine.specs.NodeSets.{has_bit, bits_below, bits_of, ChangesBit}
use Rattle.sim_core.proofs.BelowLists.{filter-map}
use Rattle.weak_machine.proofs.Filters.{below-add, filter-longer, filter-none_below, filter-same_below, filter-first}

-- a written word keeps the bits of the others
module _ (words : List ℕ) (n word : ℕ) (inside : n / 64 < length words) where
  at-written : has_bit (set words (n / 64) word) n ≡ (bit_at word (n % 64) == 1)
  at-written = ap (λ (w : ℕ). bit_at w (n % 64) == 1) (get_or-set_same words (n / 64) word 0 inside)

  other-written : ((i : ℕ) → i < 64 → i ≢ n % 64 → bit_at word i ≡ bit_at (get_or words (n / 64) 0) i) → (m : ℕ) → m ≢ n → has_bit (set words (n / 64) word) m ≡ has_bit words m
  other-written keeps m other = elim (cases_eq (m / 64) (n / 64)) [
    | inl same ↦
        let place : m % 64 ≢ n % 64 = λ e. other (omega (arith, e, same)) in
        subst (λ (q : ℕ). (bit_at (get_or (set words (n / 64) word) q 0) (m % 64) == 1) ≡ (bit_at (get_or words q 0) (m % 64) == 1)) (sym same)
        (ap (λ (w : ℕ). bit_at w (m % 64) == 1) (get_or-set_same words (n / 64) word 0 inside) ∙ ap (λ (v : ℕ). v == 1) (keeps (m % 64) (omega arith) place))
    | inr apart ↦ ap (λ (w : ℕ). bit_at w (m % 64) == 1) (get_or-set_other words (n / 64) (m / 64) word 0 apart)
  ]

pub changes-set : (words : List ℕ) (n : ℕ) → n / 64 < length words → ChangesBit words (set words (n / 64) (bit_or (get_or words (n / 64) 0) (1 * 2 ^ (n % 64) % 2 ^ 64))) n true
changes-set words n inside = record {
  room = length-set words (n / 64) (bit_or (get_or words (n / 64) 0) (1 * 2 ^ (n % 64) % 2 ^ 64));
  at = at-written words n (bit_or (get_or words (n / 64) 0) (1 * 2 ^ (n % 64) % 2 ^ 64)) inside ∙ ap (λ (v : ℕ). v == 1) (bit_at_set_same w64 (get_or words (n / 64) 0) (n % 64) (omega arith));
  others = other-written words n (bit_or (get_or words (n / 64) 0) (1 * 2 ^ (n % 64) % 2 ^ 64)) inside (λ i lt other. bit_at_set_other w64 (get_or words (n / 64) 0) (n % 64) (omega arith) i other);
}

pub changes-clear : (words : List ℕ) (n : ℕ) → n / 64 < length words → ChangesBit words (set words (n / 64) (bit_and (get_or words (n / 64) 0) (bit_not w64 (1 * 2 ^ (n % 64) % 2 ^ 64)))) n false
changes-clear words n inside = record {
  room = length-set words (n / 64) (bit_and (get_or words (n / 64) 0) (bit_not w64 (1 * 2 ^ (n % 64) % 2 ^ 64)));
  at = at-written words n (bit_and (get_or words (n / 64) 0) (bit_not w64 (1 * 2 ^ (n % 64) % 2 ^ 64))) inside ∙ ap (λ (v : ℕ). v == 1) (bit_at_clear_same w64 (get_or words (n / 64) 0) (n % 64) (omega arith));
  others = other-written words n (bit_and (get_or words (n / 64) 0) (bit_not w64 (1 * 2 ^ (n % 64) % 2 ^ 64))) inside (λ i lt other. bit_at_clear_other w64 (get_or words (n / 64) 0) (n % 64) (omega arith) i lt other);
}

pub shifted-bit : (words : List ℕ) (n : ℕ) → (bit_and (get_or words (n / 64) 0 / 2 ^ (n % 64)) 1 == 1) ≡ has_bit words n
shifted-bit words n = ap (λ (v : ℕ). v == 1) (shr_and_one (get_or words (n / 64) 0) (n % 64))

-- the bits of a word without its lowest

abbrev pub without_lowest : ℕ → ℕ
without_lowest word = bit_and word (bit_not w64 (1 * 2 ^ trailing_zeros w64 word % 2 ^ 64))

lowest-below : (d : ℕ) → d ≡ 64 → (word : ℕ) → 0 < word → word < 2 ^ 64 → bits_below d word ≡ trailing_zeros w64 word ∷ bits_below d (without_lowest word)
lowest-below d is word some fits =
    let low = bit_at-trailing_zeros w64 word some fits in
    let short = low.0 in
    filter-first (λ n. bit_at word n == 1) (λ n. bit_at (without_lowest word) n == 1) d (trailing_zeros w64 word) (omega (arith, short, is))
    (ap (λ (v : ℕ). v == 1) low.1)
    (ap (λ (v : ℕ). v == 1) (bit_at_clear_same w64 word (trailing_zeros w64 word) low.0))
    (λ j below. ap (λ (v : ℕ). v == 1) (low.2 j below))
    (λ j lt other. ap (λ (v : ℕ). v == 1) (bit_at_clear_other w64 word (trailing_zeros w64 word) low.0 j (omega (arith, lt, is)) other))

pub lowest-first : (word : ℕ) → 0 < word → word < 2 ^ 64 → bits_of word ≡ trailing_zeros w64 word ∷ bits_of (without_lowest word)
unfolding bits_of
lowest-first word some fits = lowest-below 64 refl word some fits

none-below : (d : ℕ) → bits_below d 0 ≡ []
none-below d = filter-none_below (λ n. bit_at 0 n == 1) d (λ k lt. ap (λ (v : ℕ). v == 1) (bit_at-zero k))

pub bits_of-zero : bits_of 0 ≡ []
unfolding bits_of
bits_of-zero = none-below 64

-- a word some of whose bits are set isn't 0
pub some-bits : (word : ℕ) → 0 < length (bits_of word) → 0 < word
some-bits word some = elim (cases_eq word 0) [
  | inl is ↦ let none = ap length (ap bits_of is ∙ bits_of-zero) in absurd (omega (arith, some, none))
  | inr other ↦ omega (arith, other)
]

-- what is dropped from the front of a list

pub drop-next : {X : Type 0} (k : ℕ) (xs : List X) (x : X) (ys : List X) → drop k xs ≡ x ∷ ys → drop (k + 1) xs ≡ ys
drop-next k [] x ys e = absurd (at k e) where
  at : (k : ℕ) → drop k [] ≡ x ∷ ys → ⊥
  at zero e = absurd cc
  at (suc k) e = absurd cc
drop-next zero (z ∷ xs) x ys e = cc
drop-next (suc k) (z ∷ xs) x ys e =
    let more : suc k + 1 ≡ suc (k + 1) = omega arith in ap (λ (m : ℕ). drop m (z ∷ xs)) more ∙ drop-next k xs x ys e

pub drop-at : {X : Type 0} (k : ℕ) (xs : List X) (x : X) (ys : List X) → drop k xs ≡ x ∷ ys → slice_get xs k ≡ Some x
drop-at k [] x ys e = absurd (at k e) where
  at : (k : ℕ) → drop k [] ≡ x ∷ ys → ⊥
  at zero e = absurd cc
  at (suc k) e = absurd cc
drop-at zero (z ∷ xs) x ys e = cc
drop-at (suc k) (z ∷ xs) x ys e = drop-at k xs x ys e

-- the lowest bit of what is left, after k bits were cleared

module _ (word rest k : ℕ) (left : bits_of rest ≡ drop k (bits_of word)) (lt : k < length (bits_of word)) (fits : rest < 2 ^ 64) where
  some_left : 0 < rest
  some_left = some-bits rest (let same = ap length left in let long = length-drop k (bits_of word) in omega (arith, same, long, lt))

  next_is : drop k (bits_of word) ≡ trailing_zeros w64 rest ∷ bits_of (without_lowest rest)
  next_is = sym left ∙ lowest-first rest some_left fits

  pub next-cleared : bits_of (without_lowest rest) ≡ drop (k + 1) (bits_of word)
  next-cleared = sym (drop-next k (bits_of word) (trailing_zeros w64 rest) (bits_of (without_lowest rest)) next_is)

  pub next-lowest : slice_get (bits_of word) k ≡ Some (trailing_zeros w64 rest)
  next-lowest = drop-at k (bits_of word) (trailing_zeros w64 rest) (bits_of (without_lowest rest)) next_is

  pub next-short : trailing_zeros w64 rest < 64
  next-short = (bit_at-trailing_zeros w64 rest some_left fits).0

-- how many bits are set

below_pow : (n : ℕ) → n < 2 ^ n
below_pow zero = omega arith
below_pow (suc n) = let rest = below_pow n in let next = pow-suc 2 n in omega (arith, rest, next)

digit : (b : ℕ) → b < 2 → cond {A = ℕ} (b == 1) 1 0 ≡ b
digit b lt = elim (cases_eq b 0) [
  | inl is ↦ subst (λ (v : ℕ). cond {A = ℕ} (v == 1) 1 0 ≡ v) (sym is) refl
  | inr other ↦ let is : b ≡ 1 = omega (arith, other, lt) in subst (λ (v : ℕ). cond {A = ℕ} (v == 1) 1 0 ≡ v) (sym is) refl
]

length-cons_if : (x : ℕ) (xs : List ℕ) (b : Bool) → length (cond b (x ∷ xs) xs) ≡ cond b 1 0 + length xs
length-cons_if x xs true = omega arith
length-cons_if x xs false = omega arith

digits-counted : (d n : ℕ) → length (filter (λ i. bit_at n i == 1) (nodes_below d)) ≡ ones_in d n
unfolding ones_in
digits-counted zero n = refl
digits-counted (suc d) n =
    let front : nodes_below (suc d) ≡ 0 ∷ map (λ i. 1 + i) (nodes_below d) = let next : suc d ≡ 1 + d = omega arith in ap nodes_below next ∙ below-add 1 d in
    let behind : filter (λ i. bit_at n i == 1) (map (λ i. 1 + i) (nodes_below d)) ≡ map (λ i. 1 + i) (filter (λ i. bit_at n (1 + i) == 1) (nodes_below d)) =
    filter-map (λ i. bit_at n i == 1) (λ i. 1 + i) (nodes_below d) in
    let halved : filter (λ i. bit_at n (1 + i) == 1) (nodes_below d) ≡ filter (λ i. bit_at (n / 2) i == 1) (nodes_below d) =
    filter-same_below (λ i. bit_at n (1 + i) == 1) (λ i. bit_at (n / 2) i == 1) d
    (λ k lt. let next : 1 + k ≡ suc k = omega arith in ap (λ (i : ℕ). bit_at n i == 1) next ∙ ap (λ (v : ℕ). v == 1) (bit_at-suc n k)) in
    let all : length (filter (λ i. bit_at n i == 1) (nodes_below (suc d))) ≡ cond (bit_at n 0 == 1) 1 0 + length (filter (λ i. bit_at n i == 1) (map (λ i. 1 + i) (nodes_below d))) =
    ap (λ (xs : List ℕ). length (filter (λ i. bit_at n i == 1) xs)) front ∙ length-cons_if 0 (filter (λ i. bit_at n i == 1) (map (λ i. 1 + i) (nodes_below d))) (bit_at n 0 == 1) in
    let rest : length (filter (λ i. bit_at n i == 1) (map (λ i. 1 + i) (nodes_below d))) ≡ ones_in d (n / 2) =
    ap length behind ∙ length-map (filter (λ i. bit_at n (1 + i) == 1) (nodes_below d)) (λ i. 1 + i) ∙ ap length halved ∙ digits-counted d (n / 2) in
    let low : cond {A = ℕ} (bit_at n 0 == 1) 1 0 ≡ n % 2 = ap (λ (v : ℕ). cond {A = ℕ} (v == 1) 1 0) (bit_at_lowest n) ∙ digit (n % 2) (omega arith) in
    omega (arith, all, rest, low)

ones-below : (d : ℕ) → d ≡ 64 → (word : ℕ) → word < 2 ^ 64 → ones_in word word ≡ length (bits_below d word)
ones-below d is word fits = sym (digits-counted word word) ∙ elim (cases_lt word d) [
  | inl small ↦
      let more : word + (d - word) ≡ d = omega (arith, small) in
      ap length (sym (ap (λ (m : ℕ). filter (λ i. bit_at word i == 1) (nodes_below m)) (sym more) ∙ filter-longer (λ i. bit_at word i == 1) word (d - word) (λ k le. none word k (below_pow word) le)))
  | inr large ↦
      let more : d + (word - d) ≡ word = omega (arith, large) in
      ap length (ap (λ (m : ℕ). filter (λ i. bit_at word i == 1) (nodes_below m)) (sym more) ∙ filter-longer (λ i. bit_at word i == 1) d (word - d) (λ k le. none 64 k fits (omega (arith, le, is))))
] where
  none : (n k : ℕ) → word < 2 ^ n → n ≤ k → (bit_at word k == 1) ≡ false
  none n k lt le = ap (λ (v : ℕ). v == 1) (bit_at_above word n k lt le)

pub count_ones-bits : (word : ℕ) → word < 2 ^ 64 → count_ones word ≡ length (bits_of word)
unfolding bits_of ones
count_ones-bits word fits = ones-below 64 refl word fits
