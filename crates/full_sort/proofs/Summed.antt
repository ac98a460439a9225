-- A set of bits with a summary of its words.
use Rattle.std.proofs.Common.{◌≡◌, ◌≢◌, ◌∙◌, ◌↔◌, ℕ, ◌+◌, ◌*◌, ◌/◌, ◌%◌, ◌^◌, ◌<◌, List, length, get_or, Some, ap, subst, sym, arith, inl, inr, w64}
use Rattle.std.specs.Int.{bit_at, trailing_zeros}
use Rattle.std.proofs.lemmas.List.{get_or_past}
use Rattle.std.proofs.lemmas.Bool.{cases_eq, cases_lt}
use Rattle.std.proofs.lemmas.Nat.Bits.{bit_at-trailing_zeros, bit_at-zero}
use Rattle.full_sort.specs.Bits.{bit_of, ChangesBit, IsFirstBit, IsSummed}
use Rattle.full_sort.proofs.Words.{first-found}

-- a word that isn't 0 is one of the list
pub word-inside : (words : List ℕ) (j : ℕ) → get_or words j 0 ≢ 0 → j < length words
word-inside words j some = elim (cases_lt j (length words)) [
  | inl lt ↦ lt
  | inr ge ↦ absurd (some (get_or_past words j 0 ge))
]

module _ (low high : List ℕ) (s : IsSummed low high) where
  module _ (j : ℕ) (first : IsFirstBit high (Some j)) where
    pub summed-word : get_or low j 0 ≢ 0
    summed-word zero_word =
        let none = (s.sums j).1 zero_word in
        let one = first.0 in
        omega (arith, none, one)

    pub summed-inside : j < length low
    summed-inside = word-inside low j summed-word

    pub summed-short : get_or low j 0 < 2 ^ 64 → 64 * j + trailing_zeros w64 (get_or low j 0) < 64 * length low
    summed-short fits =
        let some = summed-word in
        let place = (bit_at-trailing_zeros w64 (get_or low j 0) (omega (arith, some)) fits).0 in
        let inside = summed-inside in
        omega (arith, place, inside)

    pub summed-some : get_or low j 0 < 2 ^ 64 → IsFirstBit low (Some (64 * j + trailing_zeros w64 (get_or low j 0)))
    summed-some fits = let some = summed-word in first-found low j fits (omega (arith, some)) (λ i lt. (s.sums i).0 (first.1 i lt))

-- A bit of the list and that of its word in the summary are set.
pub summed-set : (low high after above : List ℕ) (n : ℕ) → IsSummed low high → ChangesBit low after n 1 → ChangesBit high above (n / 64) 1 → IsSummed after above
summed-set low high after above n s here there = record {
  few = (let same = here.room in let few = s.few in omega (arith, same, few));
  few_high = (let same = there.room in let few = s.few_high in omega (arith, same, few));
  room = (let same = here.room in let above_same = there.room in let room = s.room in omega (arith, same, above_same, room));
  sums = λ j. elim (cases_eq j (n / 64)) [
    | inl same ↦
        subst (λ (q : ℕ). (bit_of above q ≡ 0) ↔ (get_or after q 0 ≡ 0)) (sym same) (
          (λ none. let one = there.at in absurd (omega (arith, one, none))),
          (λ none. let one : bit_at (get_or after (n / 64) 0) (n % 64) ≡ 1 = here.at in let gone = ap (λ (w : ℕ). bit_at w (n % 64)) none ∙ bit_at-zero (n % 64) in absurd (omega (arith, one, gone))),
        )
    | inr other ↦
        let bit = there.others j other in
        let word = here.words j other in
        ((λ none. word ∙ (s.sums j).0 (sym bit ∙ none)), (λ none. bit ∙ (s.sums j).1 (sym word ∙ none)))
  ];
}
