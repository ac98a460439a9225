-- How the parts of a line are read, one after another.
use Rattle.std.proofs.Common.{◌≡◌, ◌≢◌, ℕ, ◌+◌, ◌-◌, ◌*◌, List, [], ◌∷◌, Bool, true, false, refl, ap, ◌∙◌, cond, eqb, Option, Some, None}
use Rattle.std.specs.Char.{is_ascii_digit}
use Rattle.std.specs.Option.{option_map}
use Rattle.std.proofs.lemmas.Bool.{ne_eqb}
use Rattle.test_lang.specs.Text.Numeral.{digits_at, numeral_at, held, held_front}
use Rattle.run_text.specs.Parts.{gap, start, within, with_front, parts}

-- A numeral's digits are read to the first other byte, and then comes a gap.
parts-within : (v : ℕ) (xs : List ℕ) → parts (within v) xs ≡ with_front (digits_at v xs).0 (parts gap (digits_at v xs).1)
parts-within v [] = refl
parts-within v (c ∷ cs) =
    elim (is_ascii_digit c) as (λ b. cond b (parts (within (10 * v + (c - 48))) cs) (with_front v (parts gap (c ∷ cs)))
    ≡ with_front (cond b (digits_at (10 * v + (c - 48)) cs) (v, c ∷ cs)).0 (parts gap (cond b (digits_at (10 * v + (c - 48)) cs) (v, c ∷ cs)).1)) [
      | true ↦ parts-within (10 * v + (c - 48)) cs
      | false ↦ refl
    ]

-- the values, once the numeral at the front was sought
abbrev pub behind : Option (ℕ × List ℕ) → Option (List ℕ)
behind None = None
behind (Some read) = with_front read.0 (parts gap read.1)

parts-start : (xs : List ℕ) → parts start xs ≡ behind (numeral_at xs)
parts-start [] = refl
parts-start (c ∷ cs) =
    elim (eqb c 48) as (λ z. cond z (with_front 0 (parts gap cs)) (cond (is_ascii_digit c) (parts (within (c - 48)) cs) None)
    ≡ behind (cond z (Some (0, cs)) (cond (is_ascii_digit c) (Some (digits_at (c - 48) cs)) None))) [
      | true ↦ refl
      | false ↦ elim (is_ascii_digit c) as (λ b. cond b (parts (within (c - 48)) cs) None ≡ behind (cond b (Some (digits_at (c - 48) cs)) None)) [
        | true ↦ parts-within (c - 48) cs
        | false ↦ refl
      ]
    ]

module _ (left rest : List ℕ) (c : ℕ) (is : left ≡ c ∷ rest) where
  pub parts-space : c ≡ 32 → parts gap left ≡ behind (numeral_at rest)
  parts-space space = ap (parts gap) is ∙ ap (λ (n : ℕ). parts gap (n ∷ rest)) space ∙ parts-start rest

  pub parts-other : c ≢ 32 → parts gap left ≡ None
  parts-other other = ap (parts gap) is ∙ ap (λ (b : Bool). cond b (parts start rest) None) (ne_eqb c 32 other)

-- A number that was found was there to read.
pub found-some : (found : ℕ × List ℕ) (read : Option (ℕ × List ℕ)) → Some found ≡ option_map held_front read → (n : ℕ × List ℕ) × (read ≡ Some n) × (found.0 ≡ held n.0) × (found.1 ≡ n.1)
found-some found (Some n) e = (n, refl, cc, cc)
found-some found None e = absurd cc

pub found-none : (read : Option (ℕ × List ℕ)) → None ≡ option_map held_front read → read ≡ None
found-none (Some n) e = absurd cc
found-none None e = refl
