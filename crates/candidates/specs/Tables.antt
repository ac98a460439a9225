-- The list of the candidates of all loads, and the table of places.
use Rattle.std.specs.Prelude.{◌≡◌, ℕ, ◌+◌, ◌*◌, ◌^◌, ◌<◌, ◌≤◌, List, length, Option, Some, None, slice_get, if◌then◌else◌}
use Rattle.candidates.specs.declared.candidate_lists.LoadRow.{LoadRow}
use Rattle.candidates.specs.declared.candidate_lists.PlaceRow.{PlaceRow}
use Rattle.candidates.specs.ByRank.{FindsPlace, candidates_at}
use Rattle.test_lang.specs.Program.{Program}
use Rattle.test_lang.specs.Values.{store_count}

-- The row tells where the candidates stand in the list of those of all loads.
pub record TellsCandidates (candidates values : List ℕ) (row : LoadRow) : Type 0 where
  pub count_is : row.count ≡ length candidates
  pub end_fits : row.first + length candidates < 2 ^ 64
  pub stand : (place value : ℕ) → slice_get candidates place ≡ Some value → slice_get values (row.first + place) ≡ Some value

-- what a row tells
abbrev pub told_place : PlaceRow → Option ℕ
told_place row = if row.is_candidate then Some row.place else None

-- The table has a row for each value, those for the first load first, as far as it goes.
pub record TellsPlaces (p : Program) (places : List PlaceRow) : Type 0 where
  pub rows_tell : (rank value : ℕ) (row : PlaceRow) → value ≤ store_count p → slice_get places (rank * (store_count p + 1) + value) ≡ Some row → FindsPlace (candidates_at p rank) value (told_place row)

-- The list and the tables tell the candidates of the first n loads.
pub record ListsLoads (p : Program) (n : ℕ) (loads : List LoadRow) (values : List ℕ) (places : List PlaceRow) : Type 0 where
  pub one_row_each : length loads ≡ n
  pub loads_tell : (rank : ℕ) (row : LoadRow) → slice_get loads rank ≡ Some row → TellsCandidates (candidates_at p rank) values row
  pub one_place_each : length places ≡ n * (store_count p + 1)
  pub places_tell : TellsPlaces p places
