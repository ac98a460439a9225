-- Along the few edges of a run it has the same reach, orders and cycles as along all.
use Rattle.std.proofs.Common.{◌≡◌, ℕ, List, ap, subst, sym}
use Rattle.std.specs.Prelude.{◌↔◌}
use Rattle.orders.specs.Cycles.{IsOnCycle}
use Rattle.orders.specs.Orders.{HasNoOrder, IsLeastOrder, IsOrder, nodes_below}
use Rattle.orders.specs.Paths.{Reach}
use Rattle.orders.proofs.CyclesOfPaths.{cycle_of_reach, reach_of_cycle}
use Rattle.orders.proofs.FewEdges.{reach_by_few, reach_by_all, order_by_few, order_by_all, least_order_by_few, least_order_by_all, no_order_by_few, no_order_by_all}
use Rattle.test_lang.specs.Edges.{Edge, HasNoRunOrder, IsLeastRunOrder, IsRunOrder}
use Rattle.test_lang.specs.Program.{all_nodes}
use Rattle.test_lang.specs.Runs.{IsInside}
use Rattle.digraph.specs.Digraph.{HasEdge}
use Rattle.graph_model.specs.StaticGraph.{StaticGraph, IsStaticGraph, few_run_edges}
use Rattle.graph_model.proofs.FewRunEdges.{few_run_edges-among, few_run_edges-reaching, edges_within}

module _ (s : StaticGraph) (run : List ℕ) (sound : IsStaticGraph s) (inside : IsInside s.test run) where
  pub reach_iff : (a b : ℕ) → Reach (Edge s.model s.test run) a b ↔ Reach (HasEdge (few_run_edges s run)) a b
  reach_iff a b = (
    reach_by_few (Edge s.model s.test run) (HasEdge (few_run_edges s run)) (few_run_edges-reaching s run sound inside) a b,
    reach_by_all (Edge s.model s.test run) (HasEdge (few_run_edges s run)) (few_run_edges-among s run sound inside) a b,
  )

  pub cycle_iff : (node : ℕ) → IsOnCycle (Edge s.model s.test run) node ↔ IsOnCycle (HasEdge (few_run_edges s run)) node
  cycle_iff node = (
    λ h. cycle_of_reach (HasEdge (few_run_edges s run)) node ((reach_iff node node).0 (reach_of_cycle (Edge s.model s.test run) node h)),
    λ h. cycle_of_reach (Edge s.model s.test run) node ((reach_iff node node).1 (reach_of_cycle (HasEdge (few_run_edges s run)) node h)),
  )

  -- the graph's nodes are the test's
  same_nodes : nodes_below s.graph.nodes ≡ all_nodes s.test
  same_nodes = ap nodes_below sound.nodes

  pub order_iff : (order : List ℕ) → IsRunOrder s.model s.test run order ↔ IsOrder (HasEdge (few_run_edges s run)) (nodes_below s.graph.nodes) order
  order_iff order =
      subst (λ (nodes : List ℕ). IsRunOrder s.model s.test run order ↔ IsOrder (HasEdge (few_run_edges s run)) nodes order) (sym same_nodes) (
        order_by_few (Edge s.model s.test run) (HasEdge (few_run_edges s run)) (few_run_edges-among s run sound inside) (all_nodes s.test) order,
        order_by_all (Edge s.model s.test run) (HasEdge (few_run_edges s run)) (few_run_edges-among s run sound inside) (few_run_edges-reaching s run sound inside) (all_nodes s.test) order
            (edges_within s.model s.test run),
      )

  pub least_iff : (order : List ℕ) → IsLeastRunOrder s.model s.test run order ↔ IsLeastOrder (HasEdge (few_run_edges s run)) (nodes_below s.graph.nodes) order
  least_iff order =
      subst (λ (nodes : List ℕ). IsLeastRunOrder s.model s.test run order ↔ IsLeastOrder (HasEdge (few_run_edges s run)) nodes order) (sym same_nodes) (
        least_order_by_few (Edge s.model s.test run) (HasEdge (few_run_edges s run)) (few_run_edges-among s run sound inside) (few_run_edges-reaching s run sound inside) (all_nodes s.test) order
            (edges_within s.model s.test run),
        least_order_by_all (Edge s.model s.test run) (HasEdge (few_run_edges s run)) (few_run_edges-among s run sound inside) (few_run_edges-reaching s run sound inside) (all_nodes s.test) order
            (edges_within s.model s.test run),
      )

  pub none_iff : HasNoRunOrder s.model s.test run ↔ HasNoOrder (HasEdge (few_run_edges s run)) (nodes_below s.graph.nodes)
  none_iff =
      subst (λ (nodes : List ℕ). HasNoRunOrder s.model s.test run ↔ HasNoOrder (HasEdge (few_run_edges s run)) nodes) (sym same_nodes) (
        no_order_by_few (Edge s.model s.test run) (HasEdge (few_run_edges s run)) (few_run_edges-among s run sound inside) (few_run_edges-reaching s run sound inside) (all_nodes s.test)
            (edges_within s.model s.test run),
        no_order_by_all (Edge s.model s.test run) (HasEdge (few_run_edges s run)) (few_run_edges-among s run sound inside) (all_nodes s.test),
      )
