-- The candidates of the load of a rank.
use Rattle.std.specs.Prelude.{◌≡◌, ◌↔◌, ℕ, ◌<◌, List, Contains, Option, Some, slice_get, slice_index}
use Rattle.test_lang.specs.Program.{Program}
use Rattle.test_lang.specs.Values.{load_nodes}
use Rattle.test_lang.specs.Runs.{candidates}

-- the node of the load of a rank
abbrev pub load_at : Program → ℕ → ℕ
load_at p rank = slice_index (load_nodes p) rank

abbrev pub candidates_at : Program → ℕ → List ℕ
candidates_at p rank = candidates p (load_at p rank)

-- the loads of the ranks below n give candidates' values
pub record GivesCandidates (p : Program) (run : List ℕ) (n : ℕ) : Type 0 where
  pub each : (rank : ℕ) → rank < n → Contains (candidates_at p rank) (slice_index run rank)

-- the result is the place of the value in the list, if it stands there
pub record FindsPlace (xs : List ℕ) (value : ℕ) (result : Option ℕ) : Type 0 where
  pub finds : (k : ℕ) → (result ≡ Some k) ↔ (slice_get xs k ≡ Some value)
