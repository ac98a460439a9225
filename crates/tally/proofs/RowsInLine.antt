-- Rows that are all of one list of words, and how often each waits.
use Rattle.std.proofs.Common.{◌≡◌, ◌∙◌, ℕ, zero, suc, ◌+◌, ◌*◌, ◌<◌, ◌≤◌, ◌^◌, List, [], ◌∷◌, ◌++◌, length, take, drop, get_or, set, replicate, refl, sym, ap, subst, arith, append_assoc, add-one, length-append, length-drop}
use Rattle.std.specs.Prelude.{IsPermutation}
use Rattle.std.proofs.Math.Nat.{add-mul, mul-le-mul_right, suc-mul, zero-mul}
use Rattle.std.proofs.Math.Seq.{take-length}
use Rattle.std.proofs.lemmas.Grind.{get_or_default_zero}
use Rattle.std.proofs.lemmas.List.{drop-append-le, drop-drop, nil_from_length, map-append, take-append-le, take_more, length-set}
use Rattle.std.proofs.lemmas.List.Elements.{All-push, All-set}
use Rattle.std.proofs.lemmas.List.Sorted.{IsPermutation-append_right, IsPermutation-to_front, length_permutation}
use Rattle.tally.specs.Counting.{all_rows}
use Rattle.tally.specs.declared.place.Place.{Place}
use Rattle.tally.specs.Rows.{Fills, HasRoomAt, rows_at, rows_in}
use Rattle.tally.proofs.PlacedRows.{length-all_rows-last}

-- Rows of the same width.
module _ (width : ℕ) where
  -- where the next row begins
  begins : (i : ℕ) (words : List ℕ) → drop (i * width) (drop width words) ≡ drop (suc i * width) words
  begins i words =
      let next : width + i * width ≡ suc i * width = omega (arith, suc-mul i width) in
      drop-drop (i * width) width words ∙ ap (λ n. drop n words) next

  first-begins : (words : List ℕ) → words ≡ drop (0 * width) words
  first-begins words = ap (λ n. drop n words) (sym (zero-mul width))

  pub length-rows_in : (words times : List ℕ) → length (rows_in words width times) ≡ length times
  length-rows_in words [] = refl
  length-rows_in words (n ∷ times) = ap suc (length-rows_in (drop width words) times)

  -- the row of a place, and how often it waits
  pub row_in : (words times : List ℕ) (i : ℕ) (d : List ℕ × ℕ) → i < length times → get_or (rows_in words width times) i d ≡ (take width (drop (i * width) words), get_or times i d.1)
  row_in words [] i d h = absurd (omega (arith, h))
  row_in words (n ∷ times) zero d h = ap (λ rest. (take width rest, n)) (first-begins words)
  row_in words (n ∷ times) (suc i) d h =
      row_in (drop width words) times i d (omega (arith, h))
      ∙ ap (λ rest. (take width rest, get_or times i d.1)) (begins i words)

  behind : (words times : List ℕ) (n : ℕ) → length words ≡ length (n ∷ times) * width → (width ≤ length words) × (length (drop width words) ≡ length times * width)
  behind words times n h =
      let less = length-drop width words in
      let more = suc-mul (length times) width in
      (omega (arith, h, more), omega (arith, h, less, more))

  -- the row that more words make
  pub rows_in-push : (words times row : List ℕ) → length words ≡ length times * width → length row ≡ width
      → rows_in (words ++ row) width (times ++ 1 ∷ []) ≡ rows_in words width times ++ (row, 1) ∷ []
  rows_in-push words [] row h wide =
      let none = nil_from_length words (h ∙ zero-mul width) in
      ap (λ ws. (take width (ws ++ row), 1) ∷ []) none
      ∙ ap (λ n. (take n row, 1) ∷ []) (sym wide)
      ∙ ap (λ r. (r, 1) ∷ []) (take-length row)
  rows_in-push words (n ∷ times) row h wide =
      let rest = behind words times n h in
      let first = take-append-le width words row rest.0 in
      let others = ap (λ ws. rows_in ws width (times ++ 1 ∷ [])) (drop-append-le width words row rest.0) ∙ rows_in-push (drop width words) times row rest.1 wide in
      λ i. (first i, n) ∷ others i

  -- a row that waits once more
  pub all_rows-raised : (words times : List ℕ) (i d n : ℕ) → i < length times → n ≡ get_or times i d + 1
      → IsPermutation (all_rows (rows_in words width times) ++ take width (drop (i * width) words) ∷ []) (all_rows (rows_in words width (set times i n)))
  all_rows-raised words [] i d n h is = absurd (omega (arith, h))
  all_rows-raised words (k ∷ times) zero d n h is =
      let row = take width words in
      let rest = all_rows (rows_in (drop width words) width times) in
      let one_more : replicate n row ++ rest ≡ row ∷ (replicate k row ++ rest) = ap (λ m. replicate m row ++ rest) (is ∙ add-one k) in
      subst (λ start. IsPermutation ((replicate k row ++ rest) ++ take width start ∷ []) (replicate n row ++ rest)) (first-begins words)
      (subst (IsPermutation ((replicate k row ++ rest) ++ row ∷ [])) (sym one_more) (IsPermutation-to_front (replicate k row ++ rest) row))
  all_rows-raised words (k ∷ times) (suc i) d n h is =
      let front = replicate k (take width words) in
      let before = all_rows (rows_in (drop width words) width times) in
      let after = all_rows (rows_in (drop width words) width (set times i n)) in
      let row = take width (drop (i * width) (drop width words)) in
      let same : take width (drop (suc i * width) words) ≡ row = ap (take width) (sym (begins i words)) in
      subst (λ r. IsPermutation ((front ++ before) ++ r ∷ []) (front ++ after)) (sym same)
      (subst (λ rows. IsPermutation rows (front ++ after)) (sym (append_assoc front before (row ∷ [])))
      (IsPermutation-append_right front (before ++ row ∷ []) after (all_rows-raised (drop width words) times i d n (omega (arith, h)) is)))

  pub fills-push : (words times row : List ℕ) (len : ℕ) → Fills words width times len → length row ≡ width → Fills (words ++ row) width (times ++ 1 ∷ []) (len + 1)
  fills-push words times row len h wide =
      let before = h.whole in
      record {
        whole = length-append words row ∙ omega (arith, before, wide, add-mul (length times) 1 width) ∙ ap (λ n. n * width) (sym (length-append times (1 ∷ [])));
        some = All-push (λ n. 1 ≤ n) times 1 h.some (omega arith);
        len_is = ap (λ n. n + 1) h.len_is ∙ sym (length-all_rows-last (rows_in words width times) row 1) ∙ ap (λ rows. length (all_rows rows)) (sym (rows_in-push words times row h.whole wide));
      }

  pub fills-raised : (words times : List ℕ) (len i d n : ℕ) → Fills words width times len → i < length times → n ≡ get_or times i d + 1 → Fills words width (set times i n) (len + 1)
  fills-raised words times len i d n h within is =
      let row = take width (drop (i * width) words) in
      let longer = length_permutation (all_rows (rows_in words width times) ++ row ∷ []) _ (all_rows-raised words times i d n within is) in
      let one_more = length-append (all_rows (rows_in words width times)) (row ∷ []) in
      let was = h.len_is in
      record {
        whole = h.whole ∙ ap (λ k. k * width) (sym (length-set times i n));
        some = All-set (λ k. 1 ≤ k) times i n (omega (arith, is)) h.some;
        len_is = omega (arith, longer, one_more, was);
      }

  -- a row that is found
  pub has_room : (words times : List ℕ) (place n : ℕ) (row : List ℕ) → place < length times → take width (drop (place * width) words) ≡ row → n ≡ get_or times place n → n + 1 < 2 ^ 32
      → HasRoomAt (rows_in words width times) place row
  has_room words times place n row within here is few =
      let entry = row_in words times place (row, 0) within in
      record {
        within = omega (arith, within, length-rows_in words times);
        row_is = ap (λ (e : List ℕ × ℕ). e.0) entry ∙ here;
        fits = subst (λ k. k + 1 < 2 ^ 32) (is ∙ get_or_default_zero times place n within ∙ sym (ap (λ (e : List ℕ × ℕ). e.1) entry)) few;
      }

  -- one row more is placed
  pub placed-more : (words times : List ℕ) (new places : List Place) (place : Place) (i : ℕ) → new ≡ places ++ place ∷ [] → rows_at words width places ≡ take i (rows_in words width times)
      → i < length times → place.start ≡ i * width → place.times ≡ get_or times i 0 → rows_at words width new ≡ take (i + 1) (rows_in words width times)
  placed-more words times new places place i is before within start waits =
      let entry : Place → List ℕ × ℕ = λ p. (take width (drop p.start words), p.times) in
      let here : (take width (drop place.start words), place.times) ≡ get_or (rows_in words width times) i ([], 0) =
      ap (λ n. (take width (drop n words), place.times)) start ∙ ap (λ n. (take width (drop (i * width) words), n)) waits ∙ sym (row_in words times i ([], 0) within) in
      ap (rows_at words width) is ∙ map-append entry places (place ∷ [])
      ∙ ap (λ rows. rows ++ entry place ∷ []) before
      ∙ ap (λ e. take i (rows_in words width times) ++ e ∷ []) here
      ∙ sym (take_more (rows_in words width times) i ([], 0) (omega (arith, within, length-rows_in words times)))

  -- each row stands within the words
  pub row-within : (words times : List ℕ) (i : ℕ) → length words ≡ length times * width → i < length times → i * width + width ≤ length words
  row-within words times i whole within =
      let next : i + 1 ≤ length times = omega (arith, within) in
      let most = mul-le-mul_right width next in
      omega (arith, most, whole, add-mul i 1 width)
