-- What a checker keeps: the few edges of each load of the base's run, and the graph of one run after another.
use Rattle.std.specs.Prelude.{◌≡◌, ℕ, ◌+◌, ◌^◌, ◌<◌, ◌≤◌, List, [], ◌++◌, All, Option, true, false, length, slice_index, slice_index_or, take}
use Rattle.std.specs.List.{flat_map}
use Rattle.test_lang.specs.Edges.{IsRunOrder}
use Rattle.test_lang.specs.Program.{Program, op_count}
use Rattle.test_lang.specs.Runs.{IsInside}
use Rattle.test_lang.specs.Values.{load_count, load_nodes}
use Rattle.digraph.specs.Digraph.{Digraph}
use Rattle.digraph.specs.Roomed.{Roomed}
use Rattle.graph_model.specs.LoadEdges.{edges_of_load, load_edge_room}
use Rattle.graph_model.specs.StaticGraph.{StaticGraph, IsStaticGraph, run_edge_room}
use Rattle.window_resort.specs.Bounds.{is_changed}
use Rattle.window_resort.specs.Changes.{HasPlaces, edges_at_rank}
use Rattle.window_resort.specs.Walks.{Base}

-- What contracts see of a checker.
pub record Checking : Type 0 where
  pub fixed : StaticGraph
  pub base : Option Base

-- the list of edges with the rank
abbrev pub row_at : List (Roomed (ℕ × ℕ)) → ℕ → List (ℕ × ℕ)
row_at rows rank = (slice_index_or rows rank (record { list = []; room = 0 })).list

-- a list for each load, with room for its edges
pub record HasRoom (p : Program) (rows : List (Roomed (ℕ × ℕ))) : Type 0 where
  pub loads : length rows ≡ load_count p
  pub each : All (λ row. load_edge_room p ≤ row.room) rows

-- the few edges of each load in the run
abbrev pub HasEdges : Program → List ℕ → List (Roomed (ℕ × ℕ)) → Type 0
HasEdges p run rows = (rank : ℕ) → rank < load_count p → row_at rows rank ≡ edges_at_rank p run rank

-- those of the first loads that changed
abbrev pub HasChanged : Program → List ℕ → List ℕ → ℕ → List (Roomed (ℕ × ℕ)) → Type 0
HasChanged p base run count rows = (rank : ℕ) → rank < count → is_changed base run rank ≡ true → row_at rows rank ≡ edges_at_rank p run rank

-- and those of the loads that didn't
abbrev pub HasUnchanged : Program → List ℕ → List ℕ → List (Roomed (ℕ × ℕ)) → Type 0
HasUnchanged p base run rows = (rank : ℕ) → rank < load_count p → is_changed base run rank ≡ false → row_at rows rank ≡ edges_at_rank p run rank

-- the static edges, and those of the first loads of a run
abbrev pub edges_up_to : StaticGraph → List ℕ → ℕ → List (ℕ × ℕ)
edges_up_to s run count = s.graph.edges ++ flat_map (edges_of_load s.test run) (take count (load_nodes s.test))

-- The graph has these, and it is known where the edges of each of these loads begin.
pub record HoldsLoads (s : StaticGraph) (run : List ℕ) (count : ℕ) (starts : List ℕ) (g : Digraph) : Type 0 where
  pub few : count ≤ load_count s.test
  pub nodes : g.nodes ≡ s.graph.nodes
  pub room : length s.graph.edges + run_edge_room s.test ≤ g.room
  pub edges : g.edges ≡ edges_up_to s run count
  pub at : (rank : ℕ) → rank < count → slice_index starts rank ≡ length (edges_up_to s run rank)

-- room for the graphs of all runs
pub record HasHeldRoom (s : StaticGraph) (run starts : List ℕ) : Type 0 where
  pub run_long : length run ≡ load_count s.test
  pub starts_long : length starts ≡ load_count s.test

-- room for orders of so many nodes
pub record HasOrderRoom (nodes : ℕ) (order places sorted : List ℕ) : Type 0 where
  pub order_long : length order ≡ nodes
  pub places_long : length places ≡ nodes
  pub sorted_long : length sorted ≡ nodes

-- room for all of a run, and for orders
pub record HasCheckerRoom (s : StaticGraph) (run order places sorted : List ℕ) (base fresh : List (Roomed (ℕ × ℕ))) (scratch : ℕ) : Type 0 where
  pub sound : IsStaticGraph s
  pub few : op_count s.test < 2 ^ 32
  pub run_long : length run ≡ load_count s.test
  pub order_room : HasOrderRoom (op_count s.test) order places sorted
  pub base_rows : HasRoom s.test base
  pub fresh_rows : HasRoom s.test fresh
  pub scratch_room : scratch ≡ op_count s.test

-- A base: an inside run with an order, the places of its nodes, and the few edges of its loads.
pub record IsBase (s : StaticGraph) (run order places : List ℕ) (rows : List (Roomed (ℕ × ℕ))) : Type 0 where
  pub inside : IsInside s.test run
  pub is_order : IsRunOrder s.model s.test run order
  pub placed : HasPlaces order places
  pub edges : HasEdges s.test run rows
