-- What is found of a run's few edges is so of all its edges.
use Rattle.std.proofs.Common.{◌≡◌, ℕ, List, Bool, true, arith, sym, ap, subst, inl, inr, ◌∙◌}
use Rattle.std.specs.Cmp.{IsEquivalence}
use Rattle.std.specs.List.{list_any}
use Rattle.std.specs.Ordering.{eq_of_both, on}
use Rattle.std.specs.Prelude.{nat_eq}
use Rattle.std.proofs.lemmas.Bool.Decides.{nat_tests}
use Rattle.std.proofs.lemmas.Cmp.{and_equiv, on_equiv, nat_eq_equiv}
use Rattle.std.proofs.lemmas.Map.Views.{Contains-from_any, list_any-from_Contains}
use Rattle.orders.specs.Cycles.{IsLeastOnCycle, IsOnCycle}
use Rattle.orders.specs.Orders.{HasNoOrder, nodes_below}
use Rattle.orders.proofs.Below.{once-below}
use Rattle.orders.proofs.CyclesOfPaths.{cycle_of_reach, reach_of_cycle}
use Rattle.orders.proofs.FewEdges.{order_by_few, reach_by_all}
use Rattle.orders.proofs.OrderOrCycle.{Told, order_or_cycle_lem}
use Rattle.test_lang.specs.Edges.{Edge}
use Rattle.test_lang.specs.Runs.{IsInside}
use Rattle.digraph.specs.Digraph.{Digraph, HasEdge}
use Rattle.graph_model.specs.RunVerdicts.{StandsForRun}
use Rattle.graph_model.specs.StaticGraph.{StaticGraph, IsStaticGraph, few_run_edges}
use Rattle.graph_model.proofs.RunOrders.{cycle_iff, least_iff, none_iff}

abbrev same_edge : ℕ × ℕ → ℕ × ℕ → Bool
same_edge = eq_of_both (on (λ e. e.0) nat_eq) (on (λ e. e.1) nat_eq)

same_edge_equivalence : IsEquivalence same_edge
same_edge_equivalence = and_equiv (on_equiv (λ e. e.0) nat_eq_equiv) (on_equiv (λ e. e.1) nat_eq_equiv)

same_edge_is : (x y : ℕ × ℕ) → same_edge x y ≡ true → x ≡ y
same_edge_is x y e = grind (arith, nat_tests)

-- the edges, told by a test
has_edge : List (ℕ × ℕ) → ℕ → ℕ → Bool
has_edge edges a b = list_any (same_edge (a, b)) edges

edge_told : (edges : List (ℕ × ℕ)) (a b : ℕ) → HasEdge edges a b → Told (has_edge edges) a b
unfolding has_edge
edge_told edges a b h = list_any-from_Contains same_edge_equivalence (a, b) edges h

told_edge : (edges : List (ℕ × ℕ)) (a b : ℕ) → Told (has_edge edges) a b → HasEdge edges a b
unfolding has_edge
told_edge edges a b h = Contains-from_any same_edge_is (a, b) edges h

-- a graph without an order has a node on a cycle
pub cycle_or_order : (edges : List (ℕ × ℕ)) (n : ℕ) → HasNoOrder (HasEdge edges) (nodes_below n) → (node : ℕ) × IsOnCycle (HasEdge edges) node
cycle_or_order edges n none = elim (order_or_cycle_lem (has_edge edges) (nodes_below n) (once-below n)) [
  | inl o ↦ absurd (none o.0 (order_by_few (Told (has_edge edges)) (HasEdge edges) (edge_told edges) (nodes_below n) o.0 o.1))
  | inr c ↦ (
    c.0,
    cycle_of_reach (HasEdge edges) c.0 (reach_by_all (HasEdge edges) (Told (has_edge edges)) (told_edge edges) c.0 c.0 (reach_of_cycle (Told (has_edge edges)) c.0 c.1)),
  )
]

abbrev graph_of : ℕ → ℕ → List (ℕ × ℕ) → Digraph
graph_of nodes room edges = record { nodes = nodes; room = room; edges = edges }

module _ (s : StaticGraph) (run : List ℕ) (sound : IsStaticGraph s) (inside : IsInside s.test run) where
  least_start : (node : ℕ) → IsLeastOnCycle (HasEdge (few_run_edges s run)) node → IsLeastOnCycle (Edge s.model s.test run) node
  least_start node h = record {
    on_cycle = (cycle_iff s run sound inside node).1 h.on_cycle;
    least = λ other on. h.least other ((cycle_iff s run sound inside other).0 on);
  }

  few_edges_stand : (room : ℕ) → StandsForRun s.model s.test run (graph_of s.graph.nodes room (few_run_edges s run))
  few_edges_stand room = record {
    nodes = sound.nodes;
    order = λ order h. (least_iff s run sound inside order).1 h;
    none = λ h. (none_iff s run sound inside).1 h;
    cycle = λ h. cycle_or_order (few_run_edges s run) s.graph.nodes h;
    start = least_start;
    canonical = λ node more least first. (least_start node least, first);
  }

  -- of a graph with these nodes and edges
  pub stands_for_run : (g : Digraph) → g.nodes ≡ s.graph.nodes → g.edges ≡ few_run_edges s run → StandsForRun s.model s.test run g
  stands_for_run g nodes edges =
      let same : g ≡ graph_of s.graph.nodes g.room (few_run_edges s run) =
      ap (λ (n : ℕ). graph_of n g.room g.edges) nodes ∙ ap (λ (e : List (ℕ × ℕ)). graph_of s.graph.nodes g.room e) edges in
      subst (StandsForRun s.model s.test run) (sym same) (few_edges_stand g.room)
