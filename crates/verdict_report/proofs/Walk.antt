-- The lines of outcomes, pair by pair in the order of the tally.
use Rattle.std.proofs.Common.{◌≡◌, ◌∙◌, ℕ, ◌+◌, ◌≤◌, List, [], ◌∷◌, ◌++◌, map, drop, length, ap, sym, refl, append-nil, arith}
use Rattle.std.specs.List.{AllByRecursion, zip}
use Rattle.std.specs.List.Sorted.{IsStrictlySortedBy}
use Rattle.std.specs.Map.{keys_of}
use Rattle.std.specs.declared.cmp.Ordering.TheVariants.{Less}
use Rattle.std.proofs.lemmas.Map.Keys.{sorted_head, sorted_tail}
use Rattle.tally.specs.declared.outcome.Outcome.{Outcome}
use Rattle.tally.specs.declared.outcome.Outcome.TheVariants.{Inside, Outside}
use Rattle.tally.specs.Outcomes.{outcome_cmp}
use Rattle.test_lang.specs.Text.Line.{closed}
use Rattle.verdict_report.specs.declared.report.Judged.{Judged}
use Rattle.verdict_report.specs.Lines.{signatures, outsides, signature_line, outside_line, outcome_lines}

abbrev pub walk : List (Outcome × ℕ) → List Judged → List (List ℕ)
walk [] found = []
walk ((Inside words, count) ∷ more) [] = walk more []
walk ((Inside words, count) ∷ more) (judged ∷ found) = signature_line ((words, count), judged) ∷ walk more found
walk ((Outside node value, count) ∷ more) found = outside_line (node, value, count) ∷ walk more found

-- no signature stands behind an outcome outside
none_inside : (node value : ℕ) (pairs : List (Outcome × ℕ)) → AllByRecursion (λ y. outcome_cmp (Outside node value) y ≡ Less) (keys_of pairs) → signatures pairs ≡ []
none_inside node value [] h = refl
none_inside node value ((Inside words, count) ∷ more) h = let impossible = h.0 in absurd cc
none_inside node value ((Outside n v, count) ∷ more) h = none_inside node value more h.1

pub walk-lines : (pairs : List (Outcome × ℕ)) (found : List Judged) → IsStrictlySortedBy outcome_cmp (keys_of pairs) → length found ≡ length (signatures pairs) → walk pairs found ≡ outcome_lines pairs found
walk-lines [] found rising same = refl
walk-lines ((Inside words, count) ∷ more) [] rising same = absurd (omega (arith, same))
walk-lines ((Inside words, count) ∷ more) (judged ∷ found) rising same =
    ap (λ (lines : List (List ℕ)). signature_line ((words, count), judged) ∷ lines) (walk-lines more found (sorted_tail outcome_cmp (Inside words) (keys_of more) rising) (omega (arith, same)))
walk-lines ((Outside node value, count) ∷ more) found rising same =
    let none = none_inside node value more (sorted_head outcome_cmp (Outside node value) (keys_of more) rising) in
    let rest = walk-lines more found (sorted_tail outcome_cmp (Outside node value) (keys_of more) rising) same in
    let lines : (ss : List (List ℕ × ℕ)) → ss ≡ [] → map signature_line (zip ss found) ≡ [] = λ ss e. ap (λ (xs : List (List ℕ × ℕ)). map signature_line (zip xs found)) e in
    let here = lines (signatures more) none in
    ap (λ (ls : List (List ℕ)). outside_line (node, value, count) ∷ ls) (rest ∙ ap (λ (ls : List (List ℕ)). ls ++ map outside_line (outsides more)) here)
    ∙ sym (ap (λ (ls : List (List ℕ)). ls ++ outside_line (node, value, count) ∷ map outside_line (outsides more)) here)

-- What is written and what is left to write make up the whole.
pub record IsSoFar (whole : List ℕ) (pairs : List (Outcome × ℕ)) (found : List Judged) (out : List ℕ) (place outside : ℕ) (left : List (Outcome × ℕ)) : Type 0 where
  pub lines : out ++ closed (walk left (drop place found)) ≡ whole
  pub verdicts : place + length (signatures left) ≡ length found
  pub others : outside + length (outsides left) ≡ length (outsides pairs)

pub all_written : (old out : List ℕ) (pairs : List (Outcome × ℕ)) (found : List Judged) (place outside : ℕ) (left : List (Outcome × ℕ)) → IsSoFar (old ++ closed (walk pairs found)) pairs found out place outside left → left ≡ []
    → IsStrictlySortedBy outcome_cmp (keys_of pairs) → length found ≡ length (signatures pairs) → out ≡ old ++ closed (outcome_lines pairs found)
all_written old out pairs found place outside left h none rising same =
    sym (append-nil out) ∙ sym (ap (λ (ps : List (Outcome × ℕ)). out ++ closed (walk ps (drop place found))) none) ∙ h.lines
    ∙ ap (λ (lines : List (List ℕ)). old ++ closed lines) (walk-lines pairs found rising same)

pub outsides-le : (pairs : List (Outcome × ℕ)) → length (outsides pairs) ≤ length pairs
outsides-le [] = omega arith
outsides-le ((Inside words, count) ∷ more) = omega (arith, outsides-le more)
outsides-le ((Outside node value, count) ∷ more) = omega (arith, outsides-le more)

pub signatures-le : (pairs : List (Outcome × ℕ)) → length (signatures pairs) ≤ length pairs
signatures-le [] = omega arith
signatures-le ((Inside words, count) ∷ more) = omega (arith, signatures-le more)
signatures-le ((Outside node value, count) ∷ more) = omega (arith, signatures-le more)
