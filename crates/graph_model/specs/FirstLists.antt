-- For each word the first stores of all threads, in one list.
use Rattle.std.specs.Prelude.{◌≡◌, ℕ, ◌+◌, ◌<◌, ◌≤◌, List, length, slice_index, slice_range}
use Rattle.std.specs.List.{filter_map}
use Rattle.orders.specs.Orders.{nodes_below}
use Rattle.test_lang.specs.Program.{Program}
use Rattle.graph_model.specs.StoreTables.{first_store_to}

-- the first stores of the threads that store to the word, by rising thread
abbrev pub first_stores_to : Program → ℕ → List ℕ
first_stores_to p word = filter_map (first_store_to p word) (nodes_below (length p.threads))

-- The list has those of each word, from where they begin to where those of the next word begin.
pub record HasFirstLists (p : Program) (starts stores : List ℕ) : Type 0 where
  pub room : length starts ≡ p.words + 1
  pub rising : (word : ℕ) → word < p.words → slice_index starts word ≤ slice_index starts (word + 1)
  pub within : (word : ℕ) → word < p.words → slice_index starts (word + 1) ≤ length stores
  pub each : (word : ℕ) → word < p.words → slice_range stores (slice_index starts word) (slice_index starts (word + 1)) ≡ first_stores_to p word
