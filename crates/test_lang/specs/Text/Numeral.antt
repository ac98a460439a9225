-- Numerals of any length, and the numbers that they spell.
use Rattle.std.specs.Prelude.{◌≡◌, ℕ, ◌+◌, ◌-◌, ◌*◌, ◌^◌, ◌≤◌, ◌⊎◌, List, [], ◌∷◌, ◌++◌, false, Option, Some, None, ◌==◌, if◌then◌else◌, min}
use Rattle.std.specs.Char.{is_ascii_digit}

abbrev pub AreDigits : List ℕ → Type 0
AreDigits [] = Unit {0}
AreDigits (c ∷ cs) = (48 ≤ c) × (c ≤ 57) × AreDigits cs

-- `0`, or a digit from 1 to 9 and any digits
abbrev pub IsNumeral : List ℕ → Type 0
IsNumeral [] = ⊥
IsNumeral (c ∷ cs) = ((c ≡ 48) × (cs ≡ [])) ⊎ ((49 ≤ c) × (c ≤ 57) × AreDigits cs)

-- the number that digits spell behind those of n
abbrev pub value_after : ℕ → List ℕ → ℕ
value_after n [] = n
value_after n (c ∷ cs) = value_after (10 * n + (c - 48)) cs

-- the number that a numeral spells
abbrev pub value : List ℕ → ℕ
value numeral = value_after 0 numeral

-- The bytes are the numeral of this number.
pub record IsNumeralOf (n : ℕ) (bytes : List ℕ) : Type 0 where
  pub numeral : IsNumeral bytes
  pub number : value bytes ≡ n

-- a part of a line: one space, and these bytes
abbrev pub part : List ℕ → List ℕ
part bytes = 32 ∷ bytes

-- the number that the digits at the front spell behind those of n, and the bytes after them
abbrev pub digits_at : ℕ → List ℕ → ℕ × List ℕ
digits_at n [] = (n, [])
digits_at n (c ∷ cs) = if is_ascii_digit c then digits_at (10 * n + (c - 48)) cs else (n, c ∷ cs)

-- The number of the longest numeral at the front, and the bytes after it.
abbrev pub numeral_at : List ℕ → Option (ℕ × List ℕ)
numeral_at [] = None
numeral_at (c ∷ cs) = if c == 48 then Some (0, cs) else if is_ascii_digit c then Some (digits_at (c - 48) cs) else None

-- no digit stands at the front
abbrev pub NoDigit : List ℕ → Type 0
NoDigit [] = Unit {0}
NoDigit (c ∷ cs) = is_ascii_digit c ≡ false

-- The bytes begin with the numeral of n, the longest that stands there, and these bytes stand behind it.
pub record StartsWithNumeral (bytes : List ℕ) (n : ℕ) (rest : List ℕ) : Type 0 where
  pub numeral : List ℕ
  pub is_numeral : IsNumeralOf n numeral
  pub whole : bytes ≡ numeral ++ rest
  pub longest : (numeral ≡ 48 ∷ []) ⊎ NoDigit rest

-- the number, if nothing stands after it
abbrev pub if_whole : Option (ℕ × List ℕ) → Option ℕ
if_whole None = None
if_whole (Some (n, [])) = Some n
if_whole (Some (n, c ∷ cs)) = None

-- the number of bytes that are one numeral
abbrev pub whole_numeral : List ℕ → Option ℕ
whole_numeral bytes = if_whole (numeral_at bytes)

-- A number as it is read, held down to the first one that is too large for 32 bits.
abbrev pub held : ℕ → ℕ
held n = min n (2 ^ 32)

abbrev pub held_front : ℕ × List ℕ → ℕ × List ℕ
held_front read = (held read.0, read.1)
