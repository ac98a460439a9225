-- Least orders and canonical cycles of worked examples.
use Rattle.std.proofs.Common.{◌≡◌, ℕ, List, [], ◌∷◌, true}
use Rattle.std.specs.Bool.{Decides}
use Rattle.orders.specs.Reductions.{IsWithin}
use Rattle.orders.proofs.Below.{has-below}
use Rattle.orders.proofs.CyclesOfPaths.{reach_leaves_none, reach_of_cycle}
use Rattle.test_lang.specs.declared.op.MemModel.{MemModel}
use Rattle.test_lang.specs.Program.{Program, all_nodes, op_count}
use Rattle.test_lang.specs.Edges.{Edge, IsLeastRunOrder, IsCanonicalRunCycle, HasNoRunOrder}
use Rattle.test_lang.specs.EdgeList.{edge_list}
use Rattle.test_lang.proofs.EdgeTests.{edge-nodes}
use Rattle.test_lang.proofs.EdgeLists.{edge_is_listed, listed_is_edge}
use Rattle.test_lang.proofs.ListTests.{has_pair, has_pair-contains, contains-has_pair}
use Rattle.test_lang.proofs.LeastTests.{takes_next, least_of_test}
use Rattle.test_lang.proofs.CycleTests.{is_canonical, canonical_of_test}

module _ (m : MemModel) (p : Program) (run : List ℕ) where
  tells_edges : (a b : ℕ) → Decides (has_pair (edge_list m p run) a b) (Edge m p run a b)
  tells_edges a b =
      (λ h. listed_is_edge m p run a b (has_pair-contains (edge_list m p run) a b h), λ e. contains-has_pair (edge_list m p run) a b (edge_is_listed m p run a b e))

  edges_within : IsWithin (Edge m p run) (all_nodes p)
  edges_within a b e = let ends = edge-nodes m p run a b e in (has-below (op_count p) a ends.0, has-below (op_count p) b ends.1)

  pub least_order : (order : List ℕ) → takes_next (has_pair (edge_list m p run)) (all_nodes p) [] order ≡ true → IsLeastRunOrder m p run order
  least_order order h = least_of_test (Edge m p run) (has_pair (edge_list m p run)) tells_edges (all_nodes p) order h

  pub canonical_cycle : (cycle : List ℕ) → is_canonical (has_pair (edge_list m p run)) (all_nodes p) cycle ≡ true → IsCanonicalRunCycle m p run cycle
  canonical_cycle cycle h = canonical_of_test (Edge m p run) (has_pair (edge_list m p run)) tells_edges (all_nodes p) edges_within cycle h

  no_order_of : (cycle : List ℕ) → IsCanonicalRunCycle m p run cycle → HasNoRunOrder m p run
  no_order_of [] h = absurd h
  no_order_of (start ∷ more) h = reach_leaves_none (Edge m p run) (all_nodes p) edges_within start (reach_of_cycle (Edge m p run) start h.0.on_cycle)

  -- a run with a canonical cycle has no order
  pub no_order : (cycle : List ℕ) → is_canonical (has_pair (edge_list m p run)) (all_nodes p) cycle ≡ true → HasNoRunOrder m p run
  no_order cycle h = no_order_of cycle (canonical_cycle cycle h)
