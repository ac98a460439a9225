-- The tables of a test: a row for each node, the nodes of its loads and of its stores, and the first node of each thread.
use Rattle.std.specs.Prelude.{◌≡◌, ℕ, zero, suc, ◌<◌, List, [], ◌∷◌, length, filter, Some, slice_get, slice_index}
use Rattle.test_lang.specs.declared.op.Action.{Action}
use Rattle.test_lang.specs.declared.test.Row.{Row}
use Rattle.test_lang.specs.Actions.{op_of}
use Rattle.test_lang.specs.Program.{Program, nodes, actions, all_nodes, op_count, first_node, IsWithinLimits}
use Rattle.test_lang.specs.Values.{is_store_at, load_nodes, value_of, rank_of}

-- The threads that the rows make, by the thread of each row.

abbrev pub empty_threads : ℕ → List (List Action)
empty_threads zero = []
empty_threads (suc n) = [] ∷ empty_threads n

-- with the action at the front of the thread
abbrev pub with_first : ℕ → Action → List (List Action) → List (List Action)
with_first thread action [] = []
with_first zero action (first ∷ more) = (action ∷ first) ∷ more
with_first (suc thread) action (first ∷ more) = first ∷ with_first thread action more

abbrev pub threads_of : ℕ → List Row → List (List Action)
threads_of n [] = empty_threads n
threads_of n (row ∷ rows) = with_first row.thread row.action (threads_of n rows)

abbrev pub program_of : ℕ → ℕ → ℕ → List Row → Program
program_of version words threads rows = record { version = version; words = words; threads = threads_of threads rows }

-- all stores, rising
abbrev pub store_nodes : Program → List ℕ
store_nodes p = filter (is_store_at p) (all_nodes p)

-- The row tells the node's thread and action, and the value and the rank that it has as a store or as a load.
pub record Describes (p : Program) (node : ℕ) (row : Row) : Type 0 where
  pub is_node : slice_get (nodes p) node ≡ Some (row.thread, op_of row.action)
  pub is_action : slice_get (actions p) node ≡ Some (row.thread, row.action)
  pub has_value : row.value ≡ value_of p node
  pub has_rank : row.rank ≡ rank_of p node
  pub has_thread : row.thread < length p.threads

-- The tables tell the test, and the test is within its limits.
pub record TabulatesTest (p : Program) (rows : List Row) (loads stores firsts : List ℕ) : Type 0 where
  pub limits : IsWithinLimits p
  pub one_row_each : length rows ≡ op_count p
  pub rows_describe : (node : ℕ) (row : Row) → slice_get rows node ≡ Some row → Describes p node row
  pub loads_are : loads ≡ load_nodes p
  pub stores_are : stores ≡ store_nodes p
  pub one_first_each : length firsts ≡ length p.threads
  pub firsts_are : (thread : ℕ) → thread < length firsts → slice_index firsts thread ≡ first_node p thread
