-- The table of places, one row further, and what is read there.
use Rattle.std.proofs.Common.{◌≡◌, ◌∙◌, ℕ, ◌+◌, ◌*◌, ◌<◌, ◌≤◌, List, [], ◌∷◌, ◌++◌, length, Some, ap, arith, sym, subst, ⊎_elim}
use Rattle.std.specs.Prelude.{slice_get}
use Rattle.std.proofs.lemmas.Bool.{cases_lt}
use Rattle.test_lang.specs.Program.{Program}
use Rattle.test_lang.specs.Values.{store_count}
use Rattle.test_lang.proofs.Places.{slice_get_cases_end}
use Rattle.candidates.specs.declared.candidate_lists.PlaceRow.{PlaceRow}
use Rattle.candidates.specs.ByRank.{FindsPlace, candidates_at}
use Rattle.candidates.specs.Tables.{TellsPlaces, told_place}

-- rows of the same length stand apart
one_row : (size r x i v : ℕ) → r * size + x ≡ i * size + v → x < size → v < size → (r ≡ i) × (x ≡ v)
one_row size r x i v e here there =
    ⊎_elim
    (λ (before : r < i).
    let next : (r + 1) * size ≡ r * size + size = grind arith in
    let most : (r + 1) * size ≤ i * size = grind arith in
    absurd (omega (arith, e, here, next, most)))
    (λ (from : i ≤ r).
    ⊎_elim
    (λ (behind : i < r).
    let next : (i + 1) * size ≡ i * size + size = grind arith in
    let most : (i + 1) * size ≤ r * size = grind arith in
    absurd (omega (arith, e, there, next, most)))
    (λ (to : r ≤ i).
    let same : r ≡ i = omega (arith, from, to) in
    let rows : r * size ≡ i * size = ap (λ (k : ℕ). k * size) same in
    (same, omega (arith, e, rows)))
    (cases_lt i r))
    (cases_lt r i)

pub tells_push : (p : Program) (places : List PlaceRow) (row : PlaceRow) (rank value : ℕ) → length places ≡ rank * (store_count p + 1) + value → value ≤ store_count p → FindsPlace (candidates_at p rank) value (told_place row)
    → TellsPlaces p places → TellsPlaces p (places ++ row ∷ [])
tells_push p places row rank value long le tells h = record {
  rows_tell = λ r v found few is.
      ⊎_elim
      (λ (before : slice_get places (r * (store_count p + 1) + v) ≡ Some found). h.rows_tell r v found few before)
      (λ (last : (r * (store_count p + 1) + v ≡ length places) × (row ≡ found)).
      let same = one_row (store_count p + 1) r v rank value (last.0 ∙ long) (omega (arith, few)) (omega (arith, le)) in
      subst (λ (f : PlaceRow). FindsPlace (candidates_at p r) v (told_place f)) last.1
      (subst (λ (k : ℕ). FindsPlace (candidates_at p k) v (told_place row)) (sym same.0) (subst (λ (k : ℕ). FindsPlace (candidates_at p rank) k (told_place row)) (sym same.1) tells)))
      (slice_get_cases_end places row (r * (store_count p + 1) + v) found is);
}

-- the row of a value stands in the table
pub place-within : (loads size rank value : ℕ) → rank < loads → value < size → rank * size + value < loads * size
place-within loads size rank value before lt =
    let next : (rank + 1) * size ≡ rank * size + size = grind arith in
    let most : (rank + 1) * size ≤ loads * size = grind arith in
    omega (arith, next, most, lt)
