-- The values that are read are those of the numerals that the bytes spell, and the other way.
use Rattle.std.proofs.Common.{◌≡◌, ◌≢◌, ℕ, ◌+◌, ◌-◌, ◌*◌, ◌≤◌, List, [], ◌∷◌, ◌++◌, Bool, true, false, refl, ap, arith, ◌∙◌, cond, Option, Some, None, eqb, inl, inr, ⊎_elim}
use Rattle.std.proofs.lemmas.Bool.{ne_eqb, eqb-true, eqb-false}
use Rattle.std.specs.Char.{is_ascii_digit}
use Rattle.std.specs.List.{flat_map}
use Rattle.test_lang.specs.Text.Numeral.{AreDigits, IsNumeral, value, value_after, part}
use Rattle.test_lang.proofs.TextLemmas.Choices.{chosen, guarded}
use Rattle.test_lang.proofs.TextLemmas.Numerals.{digit_in, in_digit}
use Rattle.run_text.specs.Parts.{Place, gap, start, within, with_front, parts}
use Rattle.run_text.specs.Grammar.{AreNumerals, values_of}

front_some : (n : ℕ) (o : Option (List ℕ)) (vs : List ℕ) → with_front n o ≡ Some vs → (ws : List ℕ) × (o ≡ Some ws) × (vs ≡ n ∷ ws)
front_some n None vs e = absurd cc
front_some n (Some ws) vs e = (ws, refl, cc)

-- The bytes from a place on spell the values.
abbrev Spells : Place → List ℕ → List ℕ → Type 0
Spells gap xs vs = (ns : List (List ℕ)) × AreNumerals ns × (xs ≡ flat_map part ns) × (vs ≡ values_of ns)
Spells start xs vs = (n : List ℕ) × (ns : List (List ℕ)) × IsNumeral n × AreNumerals ns × (xs ≡ n ++ flat_map part ns) × (vs ≡ value n ∷ values_of ns)
Spells (within k) xs vs = (ds : List ℕ) × (ns : List (List ℕ)) × AreDigits ds × AreNumerals ns × (xs ≡ ds ++ flat_map part ns) × (vs ≡ value_after k ds ∷ values_of ns)

pub parts-spelled : (p : Place) (xs vs : List ℕ) → parts p xs ≡ Some vs → Spells p xs vs
parts-spelled gap [] vs e = ([], tt, refl, cc)
parts-spelled start [] vs e = absurd cc
parts-spelled (within k) [] vs e = ([], [], tt, tt, refl, cc)
parts-spelled gap (c ∷ cs) vs e =
    let space = guarded (eqb c 32) (parts start cs) vs e in
    let s = parts-spelled start cs vs space.1 in
    let is : c ≡ 32 = eqb-true c 32 space.0 in
    (s.0 ∷ s.1, (s.2, s.3), ap (λ (n : ℕ). n ∷ cs) is ∙ ap (λ (ys : List ℕ). 32 ∷ ys) s.4, s.5)
parts-spelled start (c ∷ cs) vs e = ⊎_elim
    (λ (zero_here : (eqb c 48 ≡ true) × (with_front 0 (parts gap cs) ≡ Some vs)).
    let rest = front_some 0 (parts gap cs) vs zero_here.1 in
    let s = parts-spelled gap cs rest.0 rest.1 in
    let is : c ≡ 48 = eqb-true c 48 zero_here.0 in
    (48 ∷ [], s.0, inl (refl, refl), s.1, ap (λ (n : ℕ). n ∷ cs) is ∙ ap (λ (ys : List ℕ). 48 ∷ ys) s.2, rest.2 ∙ ap (λ (ys : List ℕ). 0 ∷ ys) s.3))
    (λ (other : (eqb c 48 ≡ false) × (cond (is_ascii_digit c) (parts (within (c - 48)) cs) None ≡ Some vs)).
    let digit = guarded (is_ascii_digit c) (parts (within (c - 48)) cs) vs other.1 in
    let bounds = digit_in c digit.0 in
    let not_zero : c ≢ 48 = eqb-false c 48 other.0 in
    let s = parts-spelled (within (c - 48)) cs vs digit.1 in
    let first : c - 48 ≡ 10 * 0 + (c - 48) = omega arith in
    (c ∷ s.0, s.1, inr (omega arith, bounds.1, s.2), s.3, ap (λ (ys : List ℕ). c ∷ ys) s.4, s.5 ∙ ap (λ (n : ℕ). value_after n s.0 ∷ values_of s.1) first))
    (chosen (eqb c 48) (with_front 0 (parts gap cs)) (cond (is_ascii_digit c) (parts (within (c - 48)) cs) None) (Some vs) e)
parts-spelled (within k) (c ∷ cs) vs e = ⊎_elim
    (λ (digit : (is_ascii_digit c ≡ true) × (parts (within (10 * k + (c - 48))) cs ≡ Some vs)).
    let bounds = digit_in c digit.0 in
    let s = parts-spelled (within (10 * k + (c - 48))) cs vs digit.1 in
    (c ∷ s.0, s.1, (bounds.0, bounds.1, s.2), s.3, ap (λ (ys : List ℕ). c ∷ ys) s.4, s.5))
    (λ (other : (is_ascii_digit c ≡ false) × (with_front k (cond (eqb c 32) (parts start cs) None) ≡ Some vs)).
    let rest = front_some k (cond (eqb c 32) (parts start cs) None) vs other.1 in
    let space = guarded (eqb c 32) (parts start cs) rest.0 rest.1 in
    let s = parts-spelled start cs rest.0 space.1 in
    let is : c ≡ 32 = eqb-true c 32 space.0 in
    ([], s.0 ∷ s.1, tt, (s.2, s.3), ap (λ (n : ℕ). n ∷ cs) is ∙ ap (λ (ys : List ℕ). 32 ∷ ys) s.4, rest.2 ∙ ap (λ (ys : List ℕ). k ∷ ys) s.5))
    (chosen (is_ascii_digit c) (parts (within (10 * k + (c - 48))) cs) (with_front k (cond (eqb c 32) (parts start cs) None)) (Some vs) e)

-- Digits, and then parts, are read as the number that they spell.
parts-of_digits : (k : ℕ) (ds : List ℕ) (ns : List (List ℕ)) → AreDigits ds → parts (within k) (ds ++ flat_map part ns) ≡ with_front (value_after k ds) (parts gap (flat_map part ns))
parts-of_digits k [] [] h = refl
parts-of_digits k [] (n ∷ ns) h = refl
parts-of_digits k (c ∷ ds) ns h =
    let after = ds ++ flat_map part ns in
    ap (λ (b : Bool). cond b (parts (within (10 * k + (c - 48))) after) (with_front k (cond (eqb c 32) (parts start after) None))) (in_digit c h.0 h.1)
    ∙ parts-of_digits (10 * k + (c - 48)) ds ns h.2

pub parts-spelling : (ns : List (List ℕ)) → AreNumerals ns → parts gap (flat_map part ns) ≡ Some (values_of ns)
parts-spelling [] h = refl
parts-spelling ([] ∷ ns) h = absurd h.0
parts-spelling ((c ∷ ds) ∷ ns) h = ⊎_elim
    (λ (is : (c ≡ 48) × (ds ≡ [])). rw (is.0, is.1) (ap (with_front 0) (parts-spelling ns h.1)))
    (λ (is : (49 ≤ c) × (c ≤ 57) × AreDigits ds).
    let after = ds ++ flat_map part ns in
    let not_zero : c ≢ 48 = λ same. absurd (omega arith) in
    let first : c - 48 ≡ 10 * 0 + (c - 48) = omega arith in
    ap (λ (b : Bool). cond b (with_front 0 (parts gap after)) (cond (is_ascii_digit c) (parts (within (c - 48)) after) None)) (ne_eqb c 48 not_zero)
    ∙ ap (λ (b : Bool). cond b (parts (within (c - 48)) after) None) (in_digit c (omega arith) is.1)
    ∙ parts-of_digits (c - 48) ds ns is.2
    ∙ ap (with_front (value_after (c - 48) ds)) (parts-spelling ns h.1)
    ∙ ap (λ (n : ℕ). Some (value_after n ds ∷ values_of ns)) first)
    h.0
