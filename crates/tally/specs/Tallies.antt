-- Tallies: how often each outcome occurs in a list.
use Rattle.std.specs.Prelude.{◌≡◌, ℕ, ◌+◌, ◌-◌, ◌≤◌, ◌==◌, List, [], ◌∷◌, All, count_by, sum, unwrap_or, if◌then◌else◌}
use Rattle.std.specs.BTreeMap.{insert_entry}
use Rattle.std.specs.List.Sorted.{IsStrictlySortedBy}
use Rattle.std.specs.Map.{keys_of, values_of, lookup, remove_entry}
use Rattle.tally.specs.declared.outcome.Outcome.{Outcome}
use Rattle.tally.specs.Outcomes.{outcome_eq, outcome_cmp}

-- in how many places of the list the outcome stands
abbrev pub occurrences : List Outcome → Outcome → ℕ
occurrences outcomes outcome = count_by (outcome_eq outcome) outcomes

-- the count that the pairs give an outcome, or 0 where they don't have it
abbrev pub count_of : List (Outcome × ℕ) → Outcome → ℕ
count_of pairs outcome = unwrap_or (lookup (outcome_eq outcome) pairs) 0

-- the sum of the counts
abbrev pub total_of : List (Outcome × ℕ) → ℕ
total_of pairs = sum (values_of pairs)

-- Outcomes with their counts: the outcomes rise, so that each stands once, and each count is at least 1.
pub record IsCounts (pairs : List (Outcome × ℕ)) : Type 0 where
  pub rising : IsStrictlySortedBy outcome_cmp (keys_of pairs)
  pub positive : All (λ count. 1 ≤ count) (values_of pairs)

-- The tally of a list of outcomes: each distinct one, rising, with the number of its places in the list.
pub record IsTally (outcomes : List Outcome) (pairs : List (Outcome × ℕ)) : Type 0 where
  pub counts : IsCounts pairs
  pub counted : (outcome : Outcome) → count_of pairs outcome ≡ occurrences outcomes outcome

-- the count of the outcome is so much greater, and all else stays; an outcome that isn't there goes to its place in the order with that count
abbrev pub with_more : List (Outcome × ℕ) → Outcome → ℕ → List (Outcome × ℕ)
with_more pairs outcome times = insert_entry outcome_cmp pairs outcome (count_of pairs outcome + times)

-- the count of the outcome is one greater, and all else stays; an outcome that isn't there goes to its place in the order with the count 1
abbrev pub with_one_more : List (Outcome × ℕ) → Outcome → List (Outcome × ℕ)
with_one_more pairs outcome = with_more pairs outcome 1

-- the count of the outcome is one less, and all else stays; an outcome whose count was 1 is gone
abbrev pub with_one_less : List (Outcome × ℕ) → Outcome → List (Outcome × ℕ)
with_one_less pairs outcome = if count_of pairs outcome == 1 then remove_entry (outcome_eq outcome) pairs else insert_entry outcome_cmp pairs outcome (count_of pairs outcome - 1)

-- the outcomes of the list are counted, each once more for each of its places
abbrev pub with_each : List (Outcome × ℕ) → List Outcome → List (Outcome × ℕ)
with_each pairs [] = pairs
with_each pairs (outcome ∷ outcomes) = with_each (with_one_more pairs outcome) outcomes
