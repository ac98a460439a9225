-- What a sort of a graph says of a run.
use Rattle.std.specs.Prelude.{◌≡◌, ℕ, List, ◌∷◌}
use Rattle.orders.specs.Cycles.{IsFirstShortestCycle, IsLeastOnCycle, IsOnCycle}
use Rattle.orders.specs.Orders.{HasNoOrder, IsLeastOrder, nodes_below}
use Rattle.test_lang.specs.declared.op.MemModel.{MemModel}
use Rattle.test_lang.specs.Edges.{Edge, HasNoRunOrder, IsCanonicalRunCycle, IsLeastRunOrder}
use Rattle.test_lang.specs.Program.{Program, op_count}
use Rattle.digraph.specs.Digraph.{Digraph, HasEdge}

-- The graph stands for a run: what is found of its nodes and edges is so of all edges of the run. A graph without an order has a node on a cycle.
pub record StandsForRun (m : MemModel) (p : Program) (run : List ℕ) (g : Digraph) : Type 0 where
  pub nodes : g.nodes ≡ op_count p
  pub order : (order : List ℕ) → IsLeastOrder (HasEdge g.edges) (nodes_below g.nodes) order → IsLeastRunOrder m p run order
  pub none : HasNoOrder (HasEdge g.edges) (nodes_below g.nodes) → HasNoRunOrder m p run
  pub cycle : HasNoOrder (HasEdge g.edges) (nodes_below g.nodes) → (node : ℕ) × IsOnCycle (HasEdge g.edges) node
  pub start : (node : ℕ) → IsLeastOnCycle (HasEdge g.edges) node → IsLeastOnCycle (Edge m p run) node
  pub canonical : (node : ℕ) (more : List ℕ) → IsLeastOnCycle (HasEdge g.edges) node → IsFirstShortestCycle (Edge m p run) node more → IsCanonicalRunCycle m p run (node ∷ more)
