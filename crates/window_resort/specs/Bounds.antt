-- How many edges a checker may read for a run.
use Rattle.std.specs.Prelude.{ℕ, ◌+◌, ◌*◌, ◌≤◌, ◌==◌, Bool, not, List, [], Option, Some, None, count_by, slice_index}
use Rattle.orders.specs.Orders.{nodes_below}
use Rattle.test_lang.specs.Edges.{Edge}
use Rattle.test_lang.specs.Program.{Program}
use Rattle.test_lang.specs.Values.{load_count}
use Rattle.digraph.specs.Digraph.{edges_in, edges_out}
use Rattle.graph_model.specs.LoadEdges.{load_edge_room}
use Rattle.graph_model.specs.StaticGraph.{StaticGraph, few_run_edges}
use Rattle.window_resort.specs.declared.spans.Window.{Window}
use Rattle.window_resort.specs.Walks.{Base}
use Rattle.window_resort.specs.Windows.{IsWindow, window_nodes}

-- the loads, by rank, have two values
abbrev pub is_changed : List ℕ → List ℕ → ℕ → Bool
is_changed base run rank = not (slice_index base rank == slice_index run rank)

-- how many loads have another value in the run than in that of the base
abbrev pub changed_count : Program → List ℕ → List ℕ → ℕ
changed_count p base run = count_by (is_changed base run) (nodes_below (load_count p))

-- the nodes of the window, or none
abbrev pub sorted_nodes : List ℕ → Option Window → List ℕ
sorted_nodes order None = []
sorted_nodes order (Some window) = window_nodes order window

-- the edges in and out of nodes, along the few edges of the run
abbrev pub edges_at : StaticGraph → List ℕ → List ℕ → ℕ
edges_at s run nodes = edges_in (few_run_edges s run) nodes + edges_out (few_run_edges s run) nodes

-- Three edges and one for each thread, for each load that changed, and four times the edges in and out of the window's nodes.
abbrev pub HasFewReads : StaticGraph → Option Base → List ℕ → ℕ → ℕ → Type 0
HasFewReads s None run before after = Unit {0}
HasFewReads s (Some base) run before after = (window : Option Window) → IsWindow (Edge s.model s.test run) base.order window →
    after ≤ before + (changed_count s.test base.run run * load_edge_room s.test + 4 * edges_at s run (sorted_nodes base.order window))
