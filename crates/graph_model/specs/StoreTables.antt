-- Tables of stores: for each node the next store of its thread to its word, for each load its base store, and for each word and thread the first store.
use Rattle.std.specs.Prelude.{◌≡◌, ℕ, ◌+◌, ◌*◌, ◌<◌, List, Bool, ◌&&◌, ◌==◌, find, Option, None, length, slice_index_or}
use Rattle.test_lang.specs.Program.{Program, all_nodes, op_count, at_node}
use Rattle.test_lang.specs.Values.{is_store_to}
use Rattle.test_lang.specs.Runs.{base_store}
use Rattle.graph_model.specs.LoadEdges.{next_store}

-- a store of the thread to the word
abbrev pub is_thread_store : Program → ℕ → ℕ → ℕ → Bool
is_thread_store p word thread n = at_node (λ node. (node.0 == thread) && is_store_to word node.1) p n

-- the thread's first store to the word
abbrev pub first_store_to : Program → ℕ → ℕ → Option ℕ
first_store_to p word thread = find (is_thread_store p word thread) (all_nodes p)

pub record HasNextStores (p : Program) (table : List (Option ℕ)) : Type 0 where
  pub room : length table ≡ op_count p
  pub each : (n : ℕ) → n < op_count p → slice_index_or table n None ≡ next_store p n

-- for each node, and so for each load, the last store before it in its thread to its word
pub record HasBaseStores (p : Program) (table : List (Option ℕ)) : Type 0 where
  pub room : length table ≡ op_count p
  pub each : (n : ℕ) → n < op_count p → slice_index_or table n None ≡ base_store p n

-- by word, and then by thread
pub record HasFirstStores (p : Program) (table : List (Option ℕ)) : Type 0 where
  pub room : length table ≡ p.words * length p.threads
  pub each : (word thread : ℕ) → word < p.words → thread < length p.threads → slice_index_or table (word * length p.threads + thread) None ≡ first_store_to p word thread
