-- What counting the outcomes of a list does to a tally.
use Rattle.std.proofs.Common.{◌≡◌, ◌∙◌, ℕ, zero, suc, ◌+◌, ◌-◌, ◌<◌, ◌≤◌, List, [], ◌∷◌, ◌++◌, length, take, map, replicate, subst, ◌^◌, length-append, append_assoc, Bool, true, false, cond, refl, sym, ap, arith, add-zero}
use Rattle.std.specs.Prelude.{IsPermutation, sum_by}
use Rattle.std.proofs.lemmas.List.{length-map, map-append}
use Rattle.std.proofs.lemmas.List.Sorted.{IsPermutation-append_right, IsPermutation-map, length_permutation, sum_by-IsPermutation}
use Rattle.std.proofs.lemmas.List.Sums.{sum_by-append, sum_by-cons}
use Rattle.tally.specs.declared.outcome.Outcome.{Outcome}
use Rattle.tally.specs.declared.outcome.Outcome.TheVariants.{Inside}
use Rattle.tally.specs.Outcomes.{outcome_eq}
use Rattle.tally.specs.Counting.{CanCount, EndsWith, all_rows, with_rows}
use Rattle.tally.specs.Tallies.{IsCounts, count_of, occurrences, total_of, with_each, with_more, with_one_more}
use Rattle.tally.proofs.Growing.{IsCounts-more, count_of-more, total-more}
use Rattle.tally.proofs.OneTally.{one_from_counts}
use Rattle.tally.proofs.PlacedRows.{all_rows-append, all_rows-last, length-all_rows-last, entries-length}

pub IsCounts-each : (pairs : List (Outcome × ℕ)) (outcomes : List Outcome) → IsCounts pairs → IsCounts (with_each pairs outcomes)
IsCounts-each pairs [] h = h
IsCounts-each pairs (outcome ∷ outcomes) h = IsCounts-each (with_one_more pairs outcome) outcomes (IsCounts-more pairs (with_one_more pairs outcome) outcome 1 h (omega arith) refl)

pub total-each : (pairs : List (Outcome × ℕ)) (outcomes : List Outcome) → IsCounts pairs → total_of (with_each pairs outcomes) ≡ total_of pairs + length outcomes
total-each pairs [] h = sym (add-zero (total_of pairs))
total-each pairs (outcome ∷ outcomes) h =
    let one = total-more pairs (with_one_more pairs outcome) outcome 1 h refl in
    let rest = total-each (with_one_more pairs outcome) outcomes (IsCounts-more pairs (with_one_more pairs outcome) outcome 1 h (omega arith) refl) in
    omega (arith, one, rest)

occurrences-cons : (outcome : Outcome) (outcomes : List Outcome) (other : Outcome) → occurrences (outcome ∷ outcomes) other ≡ cond (outcome_eq other outcome) 1 0 + occurrences outcomes other
occurrences-cons outcome outcomes other = omega (arith, sum_by-append (λ x. cond (outcome_eq other x) 1 0) (outcome ∷ []) outcomes)

pub count_of-each : (pairs : List (Outcome × ℕ)) (outcomes : List Outcome) (other : Outcome) → count_of (with_each pairs outcomes) other ≡ count_of pairs other + occurrences outcomes other
count_of-each pairs [] other = sym (add-zero (count_of pairs other))
count_of-each pairs (outcome ∷ outcomes) other =
    let rest = count_of-each (with_one_more pairs outcome) outcomes other in
    let more = count_of-more pairs outcome 1 other in
    let one = occurrences-cons outcome outcomes other in
    omega (arith, rest, more, one)

-- the same places together come to the same tally
pub same_each : (ps qs : List (Outcome × ℕ)) (xs ys : List Outcome) → IsCounts ps → IsCounts qs → ((other : Outcome) → count_of ps other + occurrences xs other ≡ count_of qs other + occurrences ys other) → with_each ps xs ≡ with_each qs ys
same_each ps qs xs ys h k e =
    one_from_counts (with_each ps xs) (with_each qs ys) (IsCounts-each ps xs h) (IsCounts-each qs ys k)
    (λ other. count_of-each ps xs other ∙ e other ∙ sym (count_of-each qs ys other))

pub with_each-append : (pairs : List (Outcome × ℕ)) (xs ys : List Outcome) → with_each pairs (xs ++ ys) ≡ with_each (with_each pairs xs) ys
with_each-append pairs [] ys = refl
with_each-append pairs (x ∷ xs) ys = with_each-append (with_one_more pairs x) xs ys

-- a row at the end of the waiting ones is counted once more
pub each-push : (pairs : List (Outcome × ℕ)) (rows : List (List ℕ)) (row : List ℕ) → with_each pairs (map Inside (rows ++ row ∷ [])) ≡ with_one_more (with_each pairs (map Inside rows)) (Inside row)
each-push pairs rows row = ap (with_each pairs) (map-append Inside rows (row ∷ [])) ∙ with_each-append pairs (map Inside rows) (Inside row ∷ [])

-- it is the same whether an outcome is counted before the others or behind them
pub each-before : (pairs : List (Outcome × ℕ)) (outcome : Outcome) (outcomes : List Outcome) → IsCounts pairs → with_each (with_one_more pairs outcome) outcomes ≡ with_one_more (with_each pairs outcomes) outcome
each-before pairs outcome outcomes h =
    same_each (with_one_more pairs outcome) pairs outcomes (outcomes ++ outcome ∷ []) (IsCounts-more pairs (with_one_more pairs outcome) outcome 1 h (omega arith) refl) h
    (λ other.
    let before = count_of-more pairs outcome 1 other in
    let behind = sum_by-append (λ x. cond (outcome_eq other x) 1 0) outcomes (outcome ∷ []) in
    omega (arith, before, behind))
    ∙ with_each-append pairs outcomes (outcome ∷ [])

-- the order of the waiting rows is nothing
pub each-permutation : (pairs : List (Outcome × ℕ)) (rows rows' : List (List ℕ)) → IsCounts pairs → IsPermutation rows rows' → with_each pairs (map Inside rows') ≡ with_each pairs (map Inside rows)
each-permutation pairs rows rows' h p =
    same_each pairs pairs (map Inside rows') (map Inside rows) h h
    (λ other. ap (λ n. count_of pairs other + n) (sum_by-IsPermutation (λ x. cond (outcome_eq other x) 1 0) (map Inside rows) (map Inside rows') (IsPermutation-map Inside rows rows' p)))

occurrences-replicate : (times : ℕ) (row : List ℕ) (other : Outcome) → occurrences (map Inside (replicate times row)) other ≡ cond (outcome_eq other (Inside row)) times 0
occurrences-replicate zero row other = by (outcome_eq other (Inside row))
  where
    by : (b : Bool) → 0 ≡ cond {A = ℕ} b 0 0
    by true = refl
    by false = refl
occurrences-replicate (suc times) row other = occurrences-cons (Inside row) (map Inside (replicate times row)) other ∙ ap (λ n. cond (outcome_eq other (Inside row)) 1 0 + n) (occurrences-replicate times row other) ∙ by (outcome_eq other (Inside row))
  where
    by : (b : Bool) → cond {A = ℕ} b 1 0 + cond b times 0 ≡ cond b (suc times) 0
    by true = omega arith
    by false = refl

-- how often an outcome stands among the waiting rows
entries-occur : (entries : List (List ℕ × ℕ)) (other : Outcome) → occurrences (map Inside (all_rows entries)) other ≡ sum_by (λ entry. cond (outcome_eq other (Inside entry.0)) entry.1 0) entries
entries-occur [] other = refl
entries-occur (entry ∷ entries) other =
    let parts = ap (λ os. occurrences os other) (map-append Inside (replicate entry.1 entry.0) (all_rows entries)) in
    let sums = sum_by-append (λ x. cond (outcome_eq other x) 1 0) (map Inside (replicate entry.1 entry.0)) (map Inside (all_rows entries)) in
    let here = occurrences-replicate entry.1 entry.0 other in
    let rest = entries-occur entries other in
    let all = sum_by-cons (λ (e : List ℕ × ℕ). cond (outcome_eq other (Inside e.0)) e.1 0) entry entries in
    omega (arith, parts, sums, here, rest, all)

-- the order in which they are kept is nothing
pub CanCount-permutation : (pairs : List (Outcome × ℕ)) (entries entries' : List (List ℕ × ℕ)) → CanCount pairs (all_rows entries) → IsPermutation entries entries'
    → CanCount pairs (all_rows entries') × (with_rows pairs (all_rows entries') ≡ with_rows pairs (all_rows entries))
CanCount-permutation pairs entries entries' can p =
    let same_length : length (all_rows entries') ≡ length (all_rows entries) = entries-length entries' ∙ sum_by-IsPermutation (λ entry. entry.1) entries entries' p ∙ sym (entries-length entries) in (
      record { counts = can.counts; room = omega (arith, same_length, can.room) },
      same_each pairs pairs (map Inside (all_rows entries')) (map Inside (all_rows entries)) can.counts can.counts
          (λ other. ap (λ n. count_of pairs other + n) (entries-occur entries' other ∙ sum_by-IsPermutation (λ entry. cond (outcome_eq other (Inside entry.0)) entry.1 0) entries entries' p ∙ sym (entries-occur entries other))),
    )

-- equal rows at the end may be counted together
pub each-group : (pairs : List (Outcome × ℕ)) (left : List (List ℕ)) (row : List ℕ) (times : ℕ) → IsCounts pairs → 1 ≤ times
    → with_each (with_more pairs (Inside row) times) (map Inside left) ≡ with_each pairs (map Inside (left ++ replicate times row))
each-group pairs left row times h some =
    let grown = IsCounts-more pairs (with_more pairs (Inside row) times) (Inside row) times h (omega (arith, some)) refl in
    same_each (with_more pairs (Inside row) times) pairs (map Inside left) (map Inside (left ++ replicate times row)) grown h
    (λ other.
    let more = count_of-more pairs (Inside row) times other in
    let split = ap (λ os. occurrences os other) (map-append Inside left (replicate times row)) in
    let parts = sum_by-append (λ x. cond (outcome_eq other x) 1 0) (map Inside left) (map Inside (replicate times row)) in
    let last = occurrences-replicate times row other in
    omega (arith, more, split, parts, last))

pub total-rows : (pairs : List (Outcome × ℕ)) (rows : List (List ℕ)) → IsCounts pairs → total_of (with_rows pairs rows) ≡ total_of pairs + length rows
total-rows pairs rows h = total-each pairs (map Inside rows) h ∙ ap (λ n. total_of pairs + n) (length-map rows Inside)

-- once the last row is counted, as many can be counted as before
pub CanCount-last : (pairs new : List (Outcome × ℕ)) (entries left : List (List ℕ × ℕ)) (row : List ℕ) (times : ℕ) → CanCount pairs (all_rows entries) → EndsWith entries row times
    → new ≡ with_more pairs (Inside row) times → IsCounts new → left ≡ take (length entries - 1) entries → CanCount new (all_rows left) × (with_rows new (all_rows left) ≡ with_rows pairs (all_rows entries))
CanCount-last pairs new entries left row times can last new_is counts left_is =
    let whole : entries ≡ left ++ (row, times) ∷ [] = last.whole ∙ ap (λ es. es ++ (row, times) ∷ []) (sym left_is) in
    let rows : all_rows entries ≡ all_rows left ++ replicate times row = ap all_rows whole ∙ all_rows-last left row times in
    let total = total-more pairs new (Inside row) times can.counts new_is in
    let long = ap (λ es. length (all_rows es)) whole ∙ length-all_rows-last left row times in (
      record { counts = counts; room = omega (arith, total, long, can.room) },
      ap (λ ps. with_rows ps (all_rows left)) new_is ∙ each-group pairs (all_rows left) row times can.counts last.some ∙ ap (with_rows pairs) (sym rows),
    )

-- there is room for the last row
pub last-room : (pairs : List (Outcome × ℕ)) (entries : List (List ℕ × ℕ)) (row : List ℕ) (times : ℕ) → CanCount pairs (all_rows entries) → EndsWith entries row times → total_of pairs + times < 2 ^ 64
last-room pairs entries row times can last =
    let long = ap (λ es. length (all_rows es)) last.whole ∙ length-all_rows-last (take (length entries - 1) entries) row times in
    omega (arith, long, can.room)

-- a batch waits behind a queue
pub waiting-length : (queue batch : List (List ℕ × ℕ)) → length (all_rows (queue ++ batch)) ≡ length (all_rows queue) + length (all_rows batch)
waiting-length queue batch = ap length (all_rows-append queue batch) ∙ length-append (all_rows queue) (all_rows batch)

module _ (pairs : List (Outcome × ℕ)) (queue batch : List (List ℕ × ℕ)) (can : CanCount pairs (all_rows (queue ++ batch))) where
  parts : length (all_rows (queue ++ batch)) ≡ length (all_rows queue) + length (all_rows batch)
  parts = waiting-length queue batch

  -- those of the queue can be counted first
  pub CanCount-queue : CanCount pairs (all_rows queue)
  CanCount-queue = record { counts = can.counts; room = omega (arith, parts, can.room) }

  -- those of the batch are counted later
  both : (ps : List (Outcome × ℕ)) (left : List (List ℕ × ℕ)) → with_rows ps (all_rows (left ++ batch)) ≡ with_rows (with_rows ps (all_rows left)) (all_rows batch)
  both ps left =
      ap (with_rows ps) (all_rows-append left batch)
      ∙ ap (with_each ps) (map-append Inside (all_rows left) (all_rows batch))
      ∙ with_each-append ps (map Inside (all_rows left)) (map Inside (all_rows batch))

  pub CanCount-behind : (new : List (Outcome × ℕ)) (left : List (List ℕ × ℕ)) → CanCount new (all_rows left) → with_rows new (all_rows left) ≡ with_rows pairs (all_rows queue)
      → CanCount new (all_rows (left ++ batch)) × (with_rows new (all_rows (left ++ batch)) ≡ with_rows pairs (all_rows (queue ++ batch)))
  CanCount-behind new left counted same =
      let before = total-rows pairs (all_rows queue) can.counts in
      let after = total-rows new (all_rows left) counted.counts in
      let equal = ap total_of same in
      let long = waiting-length left batch in (
        record { counts = counted.counts; room = omega (arith, before, after, equal, long, parts, can.room) },
        both new left ∙ ap (λ ps. with_rows ps (all_rows batch)) same ∙ sym (both pairs queue),
      )

-- a row waits behind the queue
pub behind-queue : (queue batch batch' : List (List ℕ × ℕ)) (row : List ℕ) → IsPermutation (all_rows batch ++ row ∷ []) (all_rows batch') → IsPermutation (all_rows (queue ++ batch) ++ row ∷ []) (all_rows (queue ++ batch'))
behind-queue queue batch batch' row p =
    let before : all_rows (queue ++ batch) ++ row ∷ [] ≡ all_rows queue ++ (all_rows batch ++ row ∷ []) =
    ap (λ rows. rows ++ row ∷ []) (all_rows-append queue batch) ∙ append_assoc (all_rows queue) (all_rows batch) (row ∷ []) in
    subst (λ rows. IsPermutation rows (all_rows (queue ++ batch'))) (sym before)
    (subst (IsPermutation (all_rows queue ++ (all_rows batch ++ row ∷ []))) (sym (all_rows-append queue batch'))
    (IsPermutation-append_right (all_rows queue) (all_rows batch ++ row ∷ []) (all_rows batch') p))

-- The pairs and the waiting rows stand for `before`.
module _ (before pairs : List (Outcome × ℕ)) (rows : List (List ℕ)) (can : CanCount pairs rows) (stands : with_rows pairs rows ≡ before) where
  pub IsCounts-before : IsCounts before
  IsCounts-before = subst IsCounts stands (IsCounts-each pairs (map Inside rows) can.counts)

  pub total-before : total_of before ≡ total_of pairs + length rows
  total-before = ap total_of (sym stands) ∙ total-rows pairs rows can.counts

  pub row-added : (rows' : List (List ℕ)) (row : List ℕ) → IsPermutation (rows ++ row ∷ []) rows' → with_rows pairs rows' ≡ with_one_more before (Inside row)
  row-added rows' row p = each-permutation pairs (rows ++ row ∷ []) rows' can.counts p ∙ each-push pairs rows row ∙ ap (λ ps. with_one_more ps (Inside row)) stands

  pub CanCount-row : (rows' : List (List ℕ)) (row : List ℕ) → IsPermutation (rows ++ row ∷ []) rows' → total_of before < 2 ^ 64 - 1 → CanCount pairs rows'
  CanCount-row rows' row p room = record { counts = can.counts; room = omega (arith, total-before, room, length_permutation (rows ++ row ∷ []) rows' p, length-append rows (row ∷ [])) }

  -- there is room for one row more
  pub row-room : total_of before < 2 ^ 64 - 1 → length rows + 1 < 2 ^ 64
  row-room room = omega (arith, total-before, room)

  pub outcome-added : (new : List (Outcome × ℕ)) (outcome : Outcome) → new ≡ with_one_more pairs outcome → with_rows new rows ≡ with_one_more before outcome
  outcome-added new outcome e = ap (λ ps. with_rows ps rows) e ∙ each-before pairs outcome (map Inside rows) can.counts ∙ ap (λ ps. with_one_more ps outcome) stands

  pub CanCount-outcome : (new : List (Outcome × ℕ)) (outcome : Outcome) → new ≡ with_one_more pairs outcome → total_of before < 2 ^ 64 - 1 → CanCount new rows
  CanCount-outcome new outcome e room =
      record { counts = IsCounts-more pairs new outcome 1 can.counts (omega arith) e; room = omega (arith, total-before, room, total-more pairs new outcome 1 can.counts e) }

  pub total-one_more : (after : List (Outcome × ℕ)) (outcome : Outcome) → after ≡ with_one_more before outcome → total_of after ≡ total_of before + 1
  total-one_more after outcome e = total-more before after outcome 1 IsCounts-before e
