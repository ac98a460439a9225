-- The arrays that a sort works in.
use Rattle.std.specs.Prelude.{◌≡◌, ℕ, ◌+◌, ◌*◌, ◌<◌, ◌≤◌, List, Bool, false, true, length, slice_index, None}
use Rattle.full_sort.specs.Bits.{IsFirstBit}
use Rattle.full_sort.specs.Waiting.{is_marked}

-- No node waits for an edge, none is marked, and the set is empty.
pub record IsClean (waiting : List ℕ) (marks : List Bool) (ready : List ℕ) : Type 0 where
  pub no_counts : (t : ℕ) → slice_index waiting t ≡ 0
  pub no_marks : (t : ℕ) → is_marked marks t ≡ false
  pub empty : IsFirstBit ready None

-- A number for each node, which is 0, and clean arrays for them. Room for an order and for a list of nodes, and for a count of each and one more, twice. In `all` each node is marked.
pub record IsScratch (numbers waiting : List ℕ) (marks all : List Bool) (ready placed queue counts : List ℕ) : Type 0 where
  pub no_numbers : (t : ℕ) → slice_index numbers t ≡ 0
  pub clean : IsClean waiting marks ready
  pub all_marked : (t : ℕ) → t < length numbers → is_marked all t ≡ true
  pub waiting_room : length waiting ≡ length numbers + 1
  pub marks_room : length marks ≡ length numbers
  pub all_room : length all ≡ length numbers
  pub ready_room : length numbers ≤ 64 * length ready
  pub placed_room : length placed ≡ length numbers
  pub queue_room : length queue ≡ length numbers
  pub counts_room : length counts ≡ length numbers + 1
