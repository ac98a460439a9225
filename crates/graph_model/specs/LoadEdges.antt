-- The few edges that a load adds to the kept pairs: from the store that it reads, to the first stores that are known to be later, and from its base store
-- to the store that it reads.
use Rattle.std.specs.Prelude.{ℕ, ◌+◌, List, [], ◌∷◌, ◌++◌, ◌&&◌, ◌==◌, nat_lt, find, Option, Some, None, if◌then◌else◌, length}
use Rattle.std.specs.List.{flat_map}
use Rattle.orders.specs.Orders.{nodes_below}
use Rattle.test_lang.specs.Program.{Program, all_nodes, at_node}
use Rattle.test_lang.specs.Values.{is_store_at, same_thread, one_word, value_of}
use Rattle.test_lang.specs.Runs.{value_read, writes_for, base_store}
use Rattle.graph_model.specs.FewKept.{edge_from, edge_to}

-- the store that has the value
abbrev pub store_of : Program → ℕ → Option ℕ
store_of p value = find (λ n. is_store_at p n && (value_of p n == value)) (all_nodes p)

-- the first store after a store in its thread to its word
abbrev pub next_store : Program → ℕ → Option ℕ
next_store p store = find (λ n. nat_lt store n && (is_store_at p n && (same_thread p store n && one_word p store n))) (all_nodes p)

-- where the load gives the initial value: an edge to each thread's first store to its word, by rising thread
abbrev pub edges_to_first_stores : Program → ℕ → List (ℕ × ℕ)
edges_to_first_stores p load = flat_map (λ thread. edge_to load (find (λ n. writes_for p load n && at_node (λ node. node.0 == thread) p n) (all_nodes p))) (nodes_below (length p.threads))

-- where it gives a store of another thread: an edge from it, then an edge to the first store after it in its thread to its word, and then an edge to it
-- from the load's base store; none where it gives a store of its own thread
abbrev pub edges_by_store : Program → ℕ → Option ℕ → List (ℕ × ℕ)
edges_by_store p load None = []
edges_by_store p load (Some store) = if same_thread p store load then [] else (store, load) ∷ (edge_to load (next_store p store) ++ edge_from store (base_store p load))

abbrev pub edges_of_load : Program → List ℕ → ℕ → List (ℕ × ℕ)
edges_of_load p run load =
    if value_read p run load == 0
    then edges_to_first_stores p load
    else edges_by_store p load (store_of p (value_read p run load))

-- the most edges of a load
abbrev pub load_edge_room : Program → ℕ
load_edge_room p = 3 + length p.threads
