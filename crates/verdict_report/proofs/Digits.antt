-- Digits that are found from the last one to the first.
use Rattle.std.proofs.Common.{◌*◌, ◌^◌, refl, ◌≡◌, ◌∙◌, ℕ, zero, suc, ◌+◌, ◌-◌, ◌<◌, ◌≤◌, ◌/◌, ◌%◌, List, [], ◌∷◌, ◌++◌, false, drop, set, length, ap, sym, append_assoc, arith}
use Rattle.std.specs.Prelude.{All}
use Rattle.std.proofs.lemmas.List.{drop-set, length_push}
use Rattle.std.proofs.lemmas.List.Elements.{All-nil, All-push}
use Rattle.std.proofs.lemmas.Bool.Decides.{nat_tests}
use Rattle.std.specs.Fmt.{digit_glyph}
use Rattle.verdict_report.specs.Numbers.{IsHexDigit, IsHexWord, hex_digit_value, hex_value_behind, hex_word, last_hex_digits}

pub one_more_digit : (place rest digit : ℕ) (digits whole : List ℕ) → 0 < place → place ≤ length digits → digit ≡ digit_glyph false (rest % 16) → last_hex_digits place rest ++ drop place digits ≡ whole
    → last_hex_digits (place - 1) (rest / 16) ++ drop (place - 1) (set digits (place - 1) digit) ≡ whole
one_more_digit zero rest digit digits whole some within is so_far = absurd (omega arith)
one_more_digit (suc k) rest digit digits whole some within is so_far =
    let back : suc k - 1 ≡ k = omega arith in
    let next : k + 1 ≡ suc k = omega arith in
    let here : k < length digits = omega arith in
    ap (λ (n : ℕ). last_hex_digits n (rest / 16) ++ drop n (set digits n digit)) back
    ∙ ap (λ (ds : List ℕ). last_hex_digits k (rest / 16) ++ ds) (drop-set digits k digit here ∙ ap (λ (n : ℕ). digit ∷ drop n digits) next)
    ∙ sym (append_assoc (last_hex_digits k (rest / 16)) (digit ∷ []) (drop (suc k) digits))
    ∙ ap (λ (d : ℕ). (last_hex_digits k (rest / 16) ++ d ∷ []) ++ drop (suc k) digits) is
    ∙ so_far

-- Digits spell the number whose they are.

length-digits : (k n : ℕ) → length (last_hex_digits k n) ≡ k
length-digits zero n = refl
length-digits (suc k) n = let front = length-digits k (n / 16) in let all = length_push (last_hex_digits k (n / 16)) (digit_glyph false (n % 16)) in omega (arith, front, all)

value-push : (n : ℕ) (glyphs : List ℕ) (glyph : ℕ) → hex_value_behind n (glyphs ++ glyph ∷ []) ≡ 16 * hex_value_behind n glyphs + hex_digit_value glyph
value-push n [] glyph = refl
value-push n (first ∷ glyphs) glyph = value-push (16 * n + hex_digit_value first) glyphs glyph

value-glyph : (d : ℕ) → d < 16 → hex_digit_value (digit_glyph false d) ≡ d
value-glyph d small = grind (arith, nat_tests)

glyph-digit : (d : ℕ) → d < 16 → IsHexDigit (digit_glyph false d)
glyph-digit d small = grind (arith, nat_tests)

each-digit : (k n : ℕ) → All IsHexDigit (last_hex_digits k n)
each-digit zero n = All-nil IsHexDigit
each-digit (suc k) n = All-push IsHexDigit (last_hex_digits k (n / 16)) (digit_glyph false (n % 16)) (each-digit k (n / 16)) (glyph-digit (n % 16) (omega arith))

-- the numbers of so many digits are below this
abbrev numbers_of : ℕ → ℕ
numbers_of zero = 1
numbers_of (suc k) = 16 * numbers_of k

value-digits : (k n : ℕ) → n < numbers_of k → hex_value_behind 0 (last_hex_digits k n) ≡ n
value-digits zero n small = omega (arith, small)
value-digits (suc k) n small =
    let front = value-digits k (n / 16) (omega (arith, small)) in
    let last = value-glyph (n % 16) (omega arith) in
    let all = value-push 0 (last_hex_digits k (n / 16)) (digit_glyph false (n % 16)) in
    omega (arith, front, last, all)

pub hex_word-spelled : (word : ℕ) → word < 2 ^ 64 → IsHexWord word (hex_word word)
unfolding hex_word
hex_word-spelled word small = record { small = small; long = length-digits 16 word; each = each-digit 16 word; spelled = value-digits 16 word small }
