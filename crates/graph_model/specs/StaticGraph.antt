-- What the graphs of all runs of a test have in common.
use Rattle.std.specs.Prelude.{◌≡◌, ◌↔◌, ℕ, ◌*◌, ◌≤◌, List, ◌++◌, length}
use Rattle.std.specs.List.{flat_map}
use Rattle.orders.specs.Paths.{Reach}
use Rattle.orders.specs.Reductions.{IsAmong}
use Rattle.test_lang.specs.declared.op.MemModel.{MemModel}
use Rattle.test_lang.specs.Program.{Program, op_count}
use Rattle.test_lang.specs.Values.{load_count, load_nodes}
use Rattle.test_lang.specs.Kept.{IsKept}
use Rattle.digraph.specs.Digraph.{Digraph, HasEdge}
use Rattle.graph_model.specs.LoadEdges.{edges_of_load, load_edge_room}

-- a test, a memory model, and a graph of kept pairs
pub record StaticGraph : Type 0 where
  pub test : Program
  pub model : MemModel
  pub graph : Digraph

-- The graph has kept pairs alone, at most four for each operation, and along them the same nodes are reached as along all kept pairs.
pub record IsStaticGraph (s : StaticGraph) : Type 0 where
  pub nodes : s.graph.nodes ≡ op_count s.test
  pub kept : IsAmong (HasEdge s.graph.edges) (IsKept s.model s.test)
  pub reach : (a b : ℕ) → Reach (IsKept s.model s.test) a b ↔ Reach (HasEdge s.graph.edges) a b
  pub few : length s.graph.edges ≤ 4 * op_count s.test

-- with the few edges of each load, by rising rank
abbrev pub few_run_edges : StaticGraph → List ℕ → List (ℕ × ℕ)
few_run_edges s run = s.graph.edges ++ flat_map (edges_of_load s.test run) (load_nodes s.test)

-- room for the edges that the loads of any run add
abbrev pub run_edge_room : Program → ℕ
run_edge_room p = load_count p * load_edge_room p
