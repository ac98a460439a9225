-- What one more place of an outcome does to a tally.
use Rattle.std.proofs.Common.{◌≡◌, ◌∙◌, ℕ, ◌+◌, ◌≤◌, List, [], ◌∷◌, ◌++◌, Bool, true, false, cond, refl, sym, ap, subst, arith, add-zero, All}
use Rattle.std.specs.Prelude.{Option, Some, None, unwrap_or}
use Rattle.std.specs.BTreeMap.{insert_entry, is_at}
use Rattle.std.specs.Map.{values_of, lookup, set_value}
use Rattle.std.specs.Ordering.{is_eq}
use Rattle.std.proofs.lemmas.Iterator.Adapters.{option_map_id}
use Rattle.std.proofs.lemmas.List.Elements.{All-head, All-tail}
use Rattle.std.proofs.lemmas.List.Sums.{sum_by-append}
use Rattle.std.proofs.lemmas.Map.Entries.{sum_by-insert_entry}
use Rattle.std.proofs.lemmas.Map.Steps.{lookup-le-sum}
use Rattle.std.proofs.lemmas.Map.Views.{All-values-insert_entry}
use Rattle.tally.specs.declared.outcome.Outcome.{Outcome}
use Rattle.tally.specs.Outcomes.{outcome_eq, outcome_cmp}
use Rattle.tally.specs.OutcomeLaws.{outcome_cmp_total, outcome_eq_equivalence, outcome_eq_decides, outcome_ties}
use Rattle.tally.specs.Tallies.{IsCounts, IsTally, count_of, occurrences, total_of, with_more, with_one_more}
use Rattle.tally.proofs.Putting.{lookup-insert_entry, set_value-there, sorted-insert_entry}

-- the count is what a search by the order finds
pub count_at : (pairs : List (Outcome × ℕ)) (outcome : Outcome) → count_of pairs outcome ≡ unwrap_or (lookup (is_at (outcome_cmp outcome)) pairs) 0
count_at pairs outcome = ap (λ (test : Outcome → Bool). unwrap_or (lookup test pairs) 0) (λ i other. outcome_ties outcome other i)

pub count_of-le-total : (pairs : List (Outcome × ℕ)) (outcome : Outcome) → count_of pairs outcome ≤ total_of pairs
count_of-le-total pairs outcome = lookup-le-sum (outcome_eq outcome) pairs

pub total-more : (old new : List (Outcome × ℕ)) (outcome : Outcome) (times : ℕ) → IsCounts old → new ≡ with_more old outcome times → total_of new ≡ total_of old + times
total-more old new outcome times h e =
    let found : Option ℕ = lookup (is_at (outcome_cmp outcome)) old in
    let sums = sum_by-insert_entry (λ (n : ℕ). n) outcome_cmp_total old outcome (count_of old outcome + times) h.rising in
    let same = ap (λ (o : Option ℕ). unwrap_or o 0) (option_map_id found) in
    omega (arith, ap total_of e, sums, same, count_at old outcome)

-- the counts stay at least 1
pub IsCounts-more : (old new : List (Outcome × ℕ)) (outcome : Outcome) (times : ℕ) → IsCounts old → 1 ≤ count_of old outcome + times → new ≡ with_more old outcome times → IsCounts new
IsCounts-more old new outcome times h some e = subst IsCounts (sym e) record {
  rising = sorted-insert_entry outcome_cmp_total outcome (count_of old outcome + times) old h.rising;
  positive = All-values-insert_entry outcome_cmp outcome (count_of old outcome + times) (λ count. 1 ≤ count) old h.positive some;
}

-- an outcome at the end of the list is one more place for itself alone
pub occurrences-push : (outcomes : List Outcome) (outcome other : Outcome) → occurrences (outcomes ++ outcome ∷ []) other ≡ occurrences outcomes other + cond (outcome_eq other outcome) 1 0
occurrences-push outcomes outcome other = omega (arith, sum_by-append (λ x. cond (outcome_eq other x) 1 0) outcomes (outcome ∷ []))

-- what counting an outcome more often does to the count of another
pub count_of-more : (old : List (Outcome × ℕ)) (outcome : Outcome) (times : ℕ) (other : Outcome) → count_of (with_more old outcome times) other ≡ count_of old other + cond (outcome_eq other outcome) times 0
count_of-more old outcome times other =
    count_at (with_more old outcome times) other ∙ ap (λ (found : Option ℕ). unwrap_or found 0) (lookup-insert_entry outcome_cmp_total outcome (count_of old outcome + times) other old)
    ∙ ap (λ (b : Bool). unwrap_or (cond b (Some (count_of old outcome + times)) (lookup (is_at (outcome_cmp other)) old)) 0) turned ∙ by (outcome_eq other outcome) refl
  where
    turned : is_eq (outcome_cmp outcome other) ≡ outcome_eq other outcome
    turned = sym (outcome_ties outcome other) ∙ outcome_eq_equivalence.symm outcome other

    by : (b : Bool) → outcome_eq other outcome ≡ b → unwrap_or (cond b (Some (count_of old outcome + times)) (lookup (is_at (outcome_cmp other)) old)) 0 ≡ count_of old other + cond b times 0
    by true e = ap (λ (x : Outcome). count_of old x + times) (sym ((outcome_eq_decides other outcome).0 e))
    by false e = sym (count_at old other) ∙ sym (add-zero (count_of old other))

-- the tally of a list becomes that of the list with this outcome at its end
pub IsTally-push : (outcomes : List Outcome) (old new : List (Outcome × ℕ)) (outcome : Outcome) → IsTally outcomes old → new ≡ with_one_more old outcome → IsTally (outcomes ++ outcome ∷ []) new
IsTally-push outcomes old new outcome h e = record {
  counts = IsCounts-more old new outcome 1 h.counts (omega arith) e;
  counted = λ other. ap (λ pairs. count_of pairs other) e ∙ count_of-more old outcome 1 other ∙ ap (λ n. n + cond (outcome_eq other outcome) 1 0) (h.counted other) ∙ sym (occurrences-push outcomes outcome other);
}

-- if a count was found, it is at least 1
abbrev pub AtLeastOne : Option ℕ → Type 0
AtLeastOne None = Unit {0}
AtLeastOne (Some n) = 1 ≤ n

chosen : (b : Bool) (n : ℕ) (found : Option ℕ) → 1 ≤ n → AtLeastOne found → AtLeastOne (cond b (Some n) found)
chosen true n found here rest = here
chosen false n found here rest = rest

pub found_counts : (test : Outcome → Bool) (pairs : List (Outcome × ℕ)) → All (λ count. 1 ≤ count) (values_of pairs) → AtLeastOne (lookup test pairs)
found_counts test [] h = tt
found_counts test (p ∷ pairs) h =
    chosen (test p.0) p.1 (lookup test pairs) (All-head (λ count. 1 ≤ count) p.1 (values_of pairs) h) (found_counts test pairs (All-tail (λ count. 1 ≤ count) p.1 (values_of pairs) h))

-- a count that is there may be raised in its place
pub raised : (old new : List (Outcome × ℕ)) (outcome : Outcome) (count times : ℕ) → IsCounts old → Some count ≡ lookup (is_at (outcome_cmp outcome)) old
    → new ≡ set_value (is_at (outcome_cmp outcome)) old (count + times) → (new ≡ with_more old outcome times) × IsCounts new
raised old new outcome count times h found e =
    let same : count ≡ count_of old outcome = ap (λ (o : Option ℕ). unwrap_or o 0) found ∙ sym (count_at old outcome) in
    let put : set_value (is_at (outcome_cmp outcome)) old (count + times) ≡ insert_entry outcome_cmp old outcome (count + times) = set_value-there outcome_cmp_total outcome (count + times) old count h.rising (sym found) in
    let new_is : new ≡ with_more old outcome times = e ∙ put ∙ ap (λ n. insert_entry outcome_cmp old outcome (n + times)) same in
    let positive : 1 ≤ count = subst AtLeastOne (sym found) (found_counts (is_at (outcome_cmp outcome)) old h.positive) in
    let some : 1 ≤ count_of old outcome + times = omega arith in
    (new_is, IsCounts-more old new outcome times h some new_is)
