-- Words and numbers as text.
use Rattle.std.specs.Prelude.{◌≡◌, ◌⊎◌, ℕ, suc, zero, ◌+◌, ◌-◌, ◌*◌, ◌/◌, ◌%◌, ◌^◌, ◌<◌, ◌≤◌, All, List, [], ◌∷◌, ◌++◌, length, false, codes, nat_lt, if◌then◌else◌}
use Rattle.std.specs.Fmt.{digit_glyph}
use Rattle.std.specs.List.{flat_map}

-- the last k digits of n to the base 16, from `0` to `f`
abbrev pub last_hex_digits : ℕ → ℕ → List ℕ
last_hex_digits zero n = []
last_hex_digits (suc k) n = last_hex_digits k (n / 16) ++ digit_glyph false (n % 16) ∷ []

-- a word of 64 bits, which is below 2^64: 16 digits, with leading zeros
unfoldable pub hex_word : ℕ → List ℕ
hex_word word = last_hex_digits 16 word

-- the value of a digit, and the number that digits spell behind one

abbrev pub hex_digit_value : ℕ → ℕ
hex_digit_value glyph = if nat_lt glyph 97 then glyph - 48 else glyph - 87

abbrev pub hex_value_behind : ℕ → List ℕ → ℕ
hex_value_behind n [] = n
hex_value_behind n (glyph ∷ glyphs) = hex_value_behind (16 * n + hex_digit_value glyph) glyphs

-- from `0` to `9`, or from `a` to `f`
abbrev pub IsHexDigit : ℕ → Type 0
IsHexDigit glyph = ((48 ≤ glyph) × (glyph ≤ 57)) ⊎ ((97 ≤ glyph) × (glyph ≤ 102))

-- These digits spell the word, which is below 2^64.
pub record IsHexWord (word : ℕ) (digits : List ℕ) : Type 0 where
  pub small : word < 2 ^ 64
  pub long : length digits ≡ 16
  pub each : All IsHexDigit digits
  pub spelled : hex_value_behind 0 digits ≡ word

-- the words of a signature, joined by full stops
abbrev pub signature_text : List ℕ → List ℕ
signature_text [] = codes "none"
signature_text (word ∷ words) = hex_word word ++ flat_map (λ later. codes "." ++ hex_word later) words
