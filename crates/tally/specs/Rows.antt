-- Rows of words that stand in one list.
use Rattle.std.specs.Prelude.{◌≡◌, ℕ, ◌+◌, ◌*◌, ◌^◌, ◌<◌, ◌≤◌, List, [], ◌∷◌, length, map, take, drop, All, slice_index_or}
use Rattle.tally.specs.declared.place.Place.{Place}
use Rattle.tally.specs.Counting.{all_rows}

-- the rows of this width that stand one after another, and how often each waits
abbrev pub rows_in : List ℕ → ℕ → List ℕ → List (List ℕ × ℕ)
rows_in words width [] = []
rows_in words width (times ∷ others) = (take width words, times) ∷ rows_in (drop width words) width others

-- The rows are all of the words, each waits once at least, and so many wait in all.
pub record Fills (words : List ℕ) (width : ℕ) (times : List ℕ) (len : ℕ) : Type 0 where
  pub whole : length words ≡ length times * width
  pub some : All (λ n. 1 ≤ n) times
  pub len_is : len ≡ length (all_rows (rows_in words width times))

-- the row stands at the place, and can wait there once more in 32 bits
pub record HasRoomAt (rows : List (List ℕ × ℕ)) (place : ℕ) (row : List ℕ) : Type 0 where
  pub within : place < length rows
  pub row_is : (slice_index_or rows place (row, 0)).0 ≡ row
  pub fits : (slice_index_or rows place (row, 0)).1 + 1 < 2 ^ 32

-- the rows of this width that begin at the places, and how often each waits
abbrev pub rows_at : List ℕ → ℕ → List Place → List (List ℕ × ℕ)
rows_at words width places = map (λ place. (take width (drop place.start words), place.times)) places

-- the row stands within the words
abbrev pub FitsIn : List ℕ → ℕ → Place → Type 0
FitsIn words width place = place.start + width ≤ length words

-- The rows stand within the words, each waits once at least, and so many wait in all.
pub record Holds (words : List ℕ) (width : ℕ) (places : List Place) (len : ℕ) : Type 0 where
  pub fits : All (FitsIn words width) places
  pub some : All (λ place. 1 ≤ place.times) places
  pub len_is : len ≡ length (all_rows (rows_at words width places))
