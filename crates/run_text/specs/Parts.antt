-- The values of the parts of a run line: each part is one space and a numeral.
use Rattle.std.specs.Prelude.{ℕ, ◌+◌, ◌-◌, ◌*◌, ◌^◌, List, [], ◌∷◌, Bool, Option, Some, None, ◌==◌, nat_lt, if◌then◌else◌}
use Rattle.std.specs.Char.{is_ascii_digit}
use Rattle.std.specs.List.{list_all}

-- where a reader of parts stands: between two parts, at the start of a numeral, or within one behind digits that spell a number
pub data Place : Type 0 where
  gap : Place
  start : Place
  within : ℕ → Place

abbrev pub with_front : ℕ → Option (List ℕ) → Option (List ℕ)
with_front v None = None
with_front v (Some vs) = Some (v ∷ vs)

-- these values, and then those of the rest
abbrev pub in_front : List ℕ → Option (List ℕ) → Option (List ℕ)
in_front [] rest = rest
in_front (v ∷ vs) rest = with_front v (in_front vs rest)

-- The values of the parts from a place on, if the bytes have that form.
abbrev pub parts : Place → List ℕ → Option (List ℕ)
parts gap [] = Some []
parts start [] = None
parts (within v) [] = Some (v ∷ [])
parts gap (c ∷ cs) = if c == 32 then parts start cs else None
parts start (c ∷ cs) = if c == 48 then with_front 0 (parts gap cs) else if is_ascii_digit c then parts (within (c - 48)) cs else None
parts (within v) (c ∷ cs) = if is_ascii_digit c then parts (within (10 * v + (c - 48))) cs else with_front v (if c == 32 then parts start cs else None)

abbrev pub fits : ℕ → Bool
fits v = nat_lt v (2 ^ 32)

abbrev pub all_fit : List ℕ → Bool
all_fit vs = list_all fits vs
