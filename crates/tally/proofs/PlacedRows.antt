-- Rows that begin at places in one list of words, and how often each waits.
use Rattle.std.proofs.Common.{◌≡◌, ◌∙◌, ℕ, ◌+◌, ◌-◌, ◌≤◌, List, [], ◌∷◌, ◌++◌, length, take, drop, replicate, refl, sym, ap, arith, Some, append_assoc, length-append}
use Rattle.std.specs.Prelude.{IsPermutation, sum_by}
use Rattle.std.proofs.lemmas.List.{append-nil, map-append, length-replicate}
use Rattle.std.proofs.lemmas.List.Elements.{All-pop}
use Rattle.std.proofs.lemmas.List.Sorted.{IsPermutation-map, sum_by-IsPermutation}
use Rattle.std.proofs.lemmas.List.Sums.{sum_by-cons}
use Rattle.tally.specs.declared.place.Place.{Place}
use Rattle.tally.specs.Counting.{all_rows}
use Rattle.tally.specs.Rows.{FitsIn, Holds, rows_at}

-- the rows of two lists
pub all_rows-append : (xs ys : List (List ℕ × ℕ)) → all_rows (xs ++ ys) ≡ all_rows xs ++ all_rows ys
all_rows-append [] ys = refl
all_rows-append (x ∷ xs) ys = ap (λ rows. replicate x.1 x.0 ++ rows) (all_rows-append xs ys) ∙ sym (append_assoc (replicate x.1 x.0) (all_rows xs) (all_rows ys))

-- those of the last entry stand at the end
pub all_rows-last : (xs : List (List ℕ × ℕ)) (row : List ℕ) (times : ℕ) → all_rows (xs ++ (row, times) ∷ []) ≡ all_rows xs ++ replicate times row
all_rows-last xs row times = all_rows-append xs ((row, times) ∷ []) ∙ ap (λ rows. all_rows xs ++ rows) (append-nil (replicate times row))

pub length-all_rows-last : (xs : List (List ℕ × ℕ)) (row : List ℕ) (times : ℕ) → length (all_rows (xs ++ (row, times) ∷ [])) ≡ length (all_rows xs) + times
length-all_rows-last xs row times = ap length (all_rows-last xs row times) ∙ length-append (all_rows xs) (replicate times row) ∙ ap (λ n. length (all_rows xs) + n) (length-replicate times row)

-- how many rows wait in all
pub entries-length : (entries : List (List ℕ × ℕ)) → length (all_rows entries) ≡ sum_by (λ entry. entry.1) entries
entries-length [] = refl
entries-length (entry ∷ entries) =
    let parts = length-append (replicate entry.1 entry.0) (all_rows entries) in
    let here = length-replicate entry.1 entry.0 in
    let rest = entries-length entries in
    let all = sum_by-cons (λ (e : List ℕ × ℕ). e.1) entry entries in
    omega (arith, parts, here, rest, all)

-- at least once
abbrev pub Waits : Place → Type 0
Waits place = 1 ≤ place.times

pub length-permuted : (words : List ℕ) (width : ℕ) (places places' : List Place) → IsPermutation places places' → length (all_rows (rows_at words width places')) ≡ length (all_rows (rows_at words width places))
length-permuted words width places places' p =
    let entry : Place → List ℕ × ℕ = λ place. (take width (drop place.start words), place.times) in
    entries-length (rows_at words width places')
    ∙ sum_by-IsPermutation (λ (e : List ℕ × ℕ). e.1) (rows_at words width places) (rows_at words width places') (IsPermutation-map entry places places' p)
    ∙ sym (entries-length (rows_at words width places))

-- what the queue keeps

module _ (words : List ℕ) (width : ℕ) where
  length-pop : (places : List Place) (place : Place) → length (all_rows (rows_at words width (places ++ place ∷ []))) ≡ length (all_rows (rows_at words width places)) + place.times
  length-pop places place =
      let entry : Place → List ℕ × ℕ = λ p. (take width (drop p.start words), p.times) in
      ap (λ entries. length (all_rows entries)) (map-append entry places (place ∷ [])) ∙ length-all_rows-last (rows_at words width places) (take width (drop place.start words)) place.times

  pub times-within : (places left : List Place) (place : Place) (len : ℕ) → Holds words width places len → places ≡ left ++ place ∷ [] → place.times ≤ len
  times-within places left place len h e =
      let was = h.len_is in
      let parts = ap (λ ps. length (all_rows (rows_at words width ps))) e ∙ length-pop left place in
      omega (arith, was, parts)

  pub holds-pop : (places left : List Place) (place : Place) (len : ℕ) → Holds words width places len → places ≡ left ++ place ∷ [] → Holds words width left (len - place.times)
  holds-pop places left place len h e =
      let was = h.len_is in
      let parts = ap (λ ps. length (all_rows (rows_at words width ps))) e ∙ length-pop left place in
      record {
        fits = (All-pop (FitsIn words width) places left (Some place) e h.fits).0;
        some = (All-pop Waits places left (Some place) e h.some).0;
        len_is = omega (arith, was, parts);
      }
