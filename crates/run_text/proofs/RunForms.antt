-- The run line that is read is the run line that is spelled.
use Rattle.std.proofs.Common.{◌≡◌, ℕ, ◌^◌, ◌≤◌, List, [], ◌∷◌, ◌++◌, true, false, refl, ap, arith, ◌∙◌, sym, Some, drop, take, inl, inr, ⊎_elim, nat_eq}
use Rattle.std.specs.Prelude.{codes}
use Rattle.std.specs.List.{flat_map, starts_with}
use Rattle.std.proofs.lemmas.Bool.{and_parts, and_from, and_cases, and_left, and_right, lt-ltb, ltb-true, le-ltb, ltb-false}
use Rattle.std.proofs.lemmas.List.{take-append-drop}
use Rattle.std.proofs.lemmas.Slice.Eq.{bytes_eq-Decides}
use Rattle.test_lang.specs.Text.Line.{IsLine}
use Rattle.test_lang.specs.Text.Numeral.{AreDigits, IsNumeral, value, part}
use Rattle.test_lang.proofs.TextLemmas.Choices.{guarded}
use Rattle.run_text.specs.Parts.{gap, parts, fits, all_fit}
use Rattle.run_text.specs.RunLine.{run_values}
use Rattle.run_text.specs.Grammar.{AreNumerals, values_of, run_line, AllFit, HasLarge}
use Rattle.run_text.proofs.Spelling.{parts-spelled, parts-spelling}

starts_run : (line : List ℕ) → starts_with nat_eq line (codes "run") ≡ true → line ≡ codes "run" ++ drop 3 line
starts_run line e = sym (take-append-drop 3 line) ∙ ap (λ (ys : List ℕ). ys ++ drop 3 line) (sym ((bytes_eq-Decides (codes "run") (take 3 line)).0 e))

pub run_values-spelled : (line vs : List ℕ) → run_values line ≡ Some vs → (ns : List (List ℕ)) × AreNumerals ns × (line ≡ run_line ns) × (vs ≡ values_of ns)
run_values-spelled line vs e =
    let word = guarded (starts_with nat_eq line (codes "run")) (parts gap (drop 3 line)) vs e in
    let s = parts-spelled gap (drop 3 line) vs word.1 in
    (s.0, s.1, starts_run line word.0 ∙ ap (λ (ys : List ℕ). codes "run" ++ ys) s.2, s.3)

pub run_values-spelling : (ns : List (List ℕ)) → AreNumerals ns → run_values (run_line ns) ≡ Some (values_of ns)
run_values-spelling ns h = parts-spelling ns h

-- A run line holds no line feed.
IsLine-digits : (ds xs : List ℕ) → AreDigits ds → IsLine xs → IsLine (ds ++ xs)
IsLine-digits [] xs h rest = rest
IsLine-digits (c ∷ ds) xs h rest = (λ same. absurd (omega (arith, h.0)), IsLine-digits ds xs h.2 rest)

IsLine-numeral : (n xs : List ℕ) → IsNumeral n → IsLine xs → IsLine (n ++ xs)
IsLine-numeral [] xs h rest = absurd h
IsLine-numeral (c ∷ ds) xs h rest = ⊎_elim
    (λ (is : (c ≡ 48) × (ds ≡ [])). (λ same. absurd (omega (arith, is.0)), rw (is.1) rest))
    (λ (is : (49 ≤ c) × (c ≤ 57) × AreDigits ds). (λ same. absurd (omega (arith, is.0)), IsLine-digits ds xs is.2 rest))
    h

IsLine-parts : (ns : List (List ℕ)) → AreNumerals ns → IsLine (flat_map part ns)
IsLine-parts [] h = tt
IsLine-parts (n ∷ ns) h = (λ same. absurd (omega arith), IsLine-numeral n (flat_map part ns) h.0 (IsLine-parts ns h.1))

pub IsLine-run_line : (ns : List (List ℕ)) → AreNumerals ns → IsLine (run_line ns)
IsLine-run_line ns h = (λ same. absurd (omega arith), (λ same. absurd (omega arith), (λ same. absurd (omega arith), IsLine-parts ns h)))

-- Whether all values fit.
pub all_fit-true : (ns : List (List ℕ)) → all_fit (values_of ns) ≡ true → AllFit ns
all_fit-true [] e = tt
all_fit-true (n ∷ ns) e =
    let parts = and_parts (fits (value n)) (all_fit (values_of ns)) e in
    (ltb-true (value n) (2 ^ 32) parts.0, all_fit-true ns parts.1)

pub all_fit-false : (ns : List (List ℕ)) → all_fit (values_of ns) ≡ false → HasLarge ns
all_fit-false [] e = absurd cc
all_fit-false (n ∷ ns) e = ⊎_elim
    (λ (large : fits (value n) ≡ false). inl (ltb-false (value n) (2 ^ 32) large))
    (λ (later : all_fit (values_of ns) ≡ false). inr (all_fit-false ns later))
    (and_cases (fits (value n)) (all_fit (values_of ns)) e)

pub all_fit-of : (ns : List (List ℕ)) → AllFit ns → all_fit (values_of ns) ≡ true
all_fit-of [] h = refl
all_fit-of (n ∷ ns) h = and_from (fits (value n)) (all_fit (values_of ns)) (lt-ltb (value n) (2 ^ 32) h.0) (all_fit-of ns h.1)

pub all_fit-of_large : (ns : List (List ℕ)) → HasLarge ns → all_fit (values_of ns) ≡ false
all_fit-of_large [] h = absurd h
all_fit-of_large (n ∷ ns) h = ⊎_elim
    (λ (large : 2 ^ 32 ≤ value n). and_left (fits (value n)) (all_fit (values_of ns)) (le-ltb (value n) (2 ^ 32) large))
    (λ (later : HasLarge ns). and_right (fits (value n)) (all_fit (values_of ns)) (all_fit-of_large ns later))
    h
