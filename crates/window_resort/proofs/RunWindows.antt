-- From the order of a base to that of the next run: the loads that changed make the window.
use Rattle.std.proofs.Common.{◌≡◌, ◌≢◌, inl, inr, ◌⊎◌, ℕ, ◌<◌, AllPairs, List, [], get_or, Contains, Bool, true, false, arith, refl, sym, ap, subst, ◌∙◌}
use Rattle.std.specs.Prelude.{Option, None, if◌then◌else◌, ◌==◌}
use Rattle.std.specs.List.{flat_map}
use Rattle.std.proofs.lemmas.Bool.Decides.{nat_tests}
use Rattle.std.proofs.lemmas.List.Elements.{Contains-append_cases, Contains-append_right}
use Rattle.std.proofs.lemmas.Option.{slice_get-get_or}
use Rattle.orders.specs.Orders.{IsOrder, IsLeastOrder, HasNoOrder, nodes_below}
use Rattle.orders.specs.Reductions.{IsWithin}
use Rattle.orders.proofs.Below.{all-below, has-below}
use Rattle.orders.proofs.FewEdges.{no_order_by_all, order_by_few}
use Rattle.orders.proofs.Members.{Contains-filter_back, Contains-flat_map, Contains-flat_map_back}
use Rattle.orders.proofs.OrderOrCycle.{Told}
use Rattle.test_lang.specs.declared.op.MemModel.{MemModel}
use Rattle.test_lang.specs.Edges.{Edge, HasNoRunOrder, IsRunOrder}
use Rattle.test_lang.specs.Edges.RunEdge.{kept}
use Rattle.test_lang.specs.EdgeList.{is_edge}
use Rattle.test_lang.specs.Program.{Program, all_nodes}
use Rattle.test_lang.specs.Runs.{IsInside, value_read}
use Rattle.test_lang.specs.Values.{is_load_at, load_count, load_nodes, rank_of}
use Rattle.test_lang.proofs.EdgeTests.{decides_edge}
use Rattle.test_lang.proofs.Ranks.{length-load_nodes, load_nodes-rank}
use Rattle.digraph.specs.Digraph.{HasEdge}
use Rattle.graph_model.specs.LoadEdges.{edges_by_store, edges_of_load, edges_to_first_stores, store_of}
use Rattle.graph_model.specs.StaticGraph.{StaticGraph, IsStaticGraph, few_run_edges}
use Rattle.graph_model.proofs.FewRunEdges.{edges_within, few_run_edges-among, few_run_edges-reaching, no_loop}
use Rattle.graph_model.proofs.LoadEdges.{load_among}
use Rattle.window_resort.specs.declared.spans.Window.{Window}
use Rattle.window_resort.specs.Bounds.{is_changed}
use Rattle.window_resort.specs.Changes.{HasPlaces, LeadsBack, changed_edges, edges_at_rank}
use Rattle.window_resort.specs.Windows.{IsSpan, IsWindow, PointsBackward, Spans, window_nodes, with_window}
use Rattle.window_resort.proofs.InPlace.{order_as_it_is, order_in_place}
use Rattle.window_resort.proofs.Places.{node_at, place_in}
use Rattle.window_resort.proofs.BackwardEdges.{edge_at, same_span, window_of_all}
use Rattle.window_resort.proofs.WindowOrders.{least_of_window, no_order_of_some, span_rises, window_once}

-- a load has the base's edges where it has the base's value

pub changed_or_not : (base run : List ℕ) (rank : ℕ) → (is_changed base run rank ≡ true) ⊎ (is_changed base run rank ≡ false)
changed_or_not base run rank = by_cases (is_changed base run rank) where
  by_cases : (b : Bool) → (b ≡ true) ⊎ (b ≡ false)
  by_cases true = inl refl
  by_cases false = inr refl

pub same_value : (base run : List ℕ) (rank : ℕ) → is_changed base run rank ≡ false → get_or base rank 0 ≡ get_or run rank 0
same_value base run rank e = grind (arith, nat_tests)

edges_same : (p : Program) (base run : List ℕ) (load : ℕ) → value_read p base load ≡ value_read p run load → edges_of_load p base load ≡ edges_of_load p run load
edges_same p base run load e = ap (λ (value : ℕ). if value == 0 then edges_to_first_stores p load else edges_by_store p load (store_of p value)) e

pub rank_is : (p : Program) (rank : ℕ) → rank < load_count p → rank_of p (get_or (load_nodes p) rank 0) ≡ rank
rank_is p rank below =
    let all = length-load_nodes p in
    load_nodes-rank p rank (get_or (load_nodes p) rank 0) (slice_get-get_or (load_nodes p) rank 0 (omega (arith, below, all)))

pub same_edges : (p : Program) (base run : List ℕ) (rank : ℕ) → rank < load_count p → get_or base rank 0 ≡ get_or run rank 0 → edges_at_rank p base rank ≡ edges_at_rank p run rank
same_edges p base run rank below same =
    let at = rank_is p rank below in
    edges_same p base run (get_or (load_nodes p) rank 0) (ap (λ (r : ℕ). get_or base r 0) at ∙ same ∙ ap (λ (r : ℕ). get_or run r 0) (sym at))

picked : (b : Bool) (edges : List (ℕ × ℕ)) (edge : ℕ × ℕ) → b ≡ true → Contains edges edge → Contains (if b then edges else []) edge
picked true edges edge e h = h
picked false edges edge e h = absurd cc

was_picked : (b : Bool) (edges : List (ℕ × ℕ)) (edge : ℕ × ℕ) → Contains (if b then edges else []) edge → Contains edges edge
was_picked true edges edge h = h
was_picked false edges edge h = let none = h.1 in absurd (omega (arith, none))

pub below_listed : (n x : ℕ) → Contains (nodes_below n) x → x < n
below_listed n x h = let k = place_in (nodes_below n) x h in subst (λ (y : ℕ). y < n) k.2 (all-below n k.0 0 k.1)

-- A base's order has all nodes, each once, whatever its edges.
module _ (m : MemModel) (p : Program) (base run order : List ℕ) (is_order : IsRunOrder m p base order) where
  pub within_order : IsWithin (Edge m p run) order
  within_order a b h = let ends = edges_within m p run a b h in ((is_order.same_nodes a).1 ends.0, (is_order.same_nodes b).1 ends.1)

  -- the order stays where no edge points backward
  pub kept_order : IsWindow (Edge m p run) order None → IsRunOrder m p run order
  kept_order none = order_as_it_is (Edge m p run) (all_nodes p) order is_order.same_nodes is_order.once (no_loop m p run) none

  module _ (w : Window) (span : Spans (PointsBackward (Edge m p run) order) w) where
    pub nodes_once : AllPairs (λ a b. a ≢ b) (window_nodes order w)
    nodes_once = window_once order w span.from_last.1.within (span_rises (Edge m p run) order within_order w span) is_order.once

    -- an order of the window's nodes is put in place
    pub order_of_run : (nodes : List ℕ) → IsOrder (Edge m p run) (window_nodes order w) nodes → IsRunOrder m p run (with_window order w nodes)
    order_of_run nodes o = order_in_place (Edge m p run) (all_nodes p) order nodes w is_order.same_nodes is_order.once (no_loop m p run) span o

    -- where they have none, the run has none
    pub none_of_run : HasNoOrder (Edge m p run) (window_nodes order w) → HasNoRunOrder m p run
    none_of_run none = λ other o.
        no_order_of_some (is_edge m p run) (all_nodes p) (window_nodes order w) (λ a b t. edges_within m p run a b ((decides_edge m p run a b).0 t)) nodes_once
        (λ some k. none some (order_by_few (Told (is_edge m p run)) (Edge m p run) (λ a b e. (decides_edge m p run a b).1 e) (window_nodes order w) some k))
        other (order_by_few (Edge m p run) (Told (is_edge m p run)) (λ a b t. (decides_edge m p run a b).0 t) (all_nodes p) other o)

module _ (s : StaticGraph) (base run order : List ℕ) (sound : IsStaticGraph s) (inside : IsInside s.test run) (is_order : IsRunOrder s.model s.test base order) where
  within_run : IsWithin (Edge s.model s.test run) order
  within_run = within_order s.model s.test base run order is_order

  module _ (places : List ℕ) (placed : HasPlaces order places) where
    -- a few edge that points backward is one of a load that changed
    backward_changed : (i j : ℕ) → PointsBackward (HasEdge (few_run_edges s run)) order i j → LeadsBack places (changed_edges s.test base run (load_count s.test)) i j
    backward_changed i j h =
        let a = get_or order i 0 in
        let b = get_or order j 0 in
        let lt = h.earlier in
        let below = h.within in
        let of_base : Edge s.model s.test base a b → ⊥ = λ e. let ahead = is_order.forward i j below (omega (arith, lt, below)) e in omega (arith, ahead, lt) in
        elim (Contains-append_cases s.graph.edges (flat_map (edges_of_load s.test run) (load_nodes s.test)) (a, b) h.edge) [
          | inl static ↦ absurd (of_base (kept (sound.kept a b static)))
          | inr more ↦
              let load = Contains-flat_map_back (edges_of_load s.test run) (load_nodes s.test) (a, b) more in
              let rank = place_in (load_nodes s.test) load.0 load.1 in
              let all = length-load_nodes s.test in
              let few = rank.1 in
              let ranked : rank.0 < load_count s.test = omega (arith, few, all) in
              let edge : Contains (edges_at_rank s.test run rank.0) (a, b) = subst (λ (l : ℕ). Contains (edges_of_load s.test run l) (a, b)) (sym rank.2) load.2 in
              elim (changed_or_not base run rank.0) [
                | inl changed ↦ record {
                  from = a;
                  to = b;
                  edge = Contains-flat_map (λ r. if is_changed base run r then edges_at_rank s.test run r else []) (nodes_below (load_count s.test)) rank.0 (a, b)
                      (has-below (load_count s.test) rank.0 ranked) (picked (is_changed base run rank.0) (edges_at_rank s.test run rank.0) (a, b) changed edge);
                  source_is = placed.at i below;
                  target_is = placed.at j (omega (arith, lt, below));
                  earlier = lt;
                }
                | inr same ↦
                    let as_base : Contains (edges_at_rank s.test base rank.0) (a, b) =
                    subst (λ (es : List (ℕ × ℕ)). Contains es (a, b)) (sym (same_edges s.test base run rank.0 ranked (same_value base run rank.0 same))) edge in
                    let is_load = (Contains-filter_back (is_load_at s.test) (all_nodes s.test) (get_or (load_nodes s.test) rank.0 0) (node_at (load_nodes s.test) rank.0 few)).1 in
                    absurd (of_base (load_among s.model s.test base (get_or (load_nodes s.test) rank.0 0) is_load a b as_base))
              ]
        ]

    -- and the other way round
    changed_backward : (i j : ℕ) → LeadsBack places (changed_edges s.test base run (load_count s.test)) i j → PointsBackward (HasEdge (few_run_edges s run)) order i j
    changed_backward i j h =
        let rank = Contains-flat_map_back (λ r. if is_changed base run r then edges_at_rank s.test run r else []) (nodes_below (load_count s.test)) (h.from, h.to) h.edge in
        let here = was_picked (is_changed base run rank.0) (edges_at_rank s.test run rank.0) (h.from, h.to) rank.2 in
        let ranked = below_listed (load_count s.test) rank.0 rank.1 in
        let all = length-load_nodes s.test in
        let load = node_at (load_nodes s.test) rank.0 (omega (arith, ranked, all)) in
        let edge : HasEdge (few_run_edges s run) h.from h.to =
        Contains-append_right s.graph.edges (flat_map (edges_of_load s.test run) (load_nodes s.test)) (h.from, h.to)
        (Contains-flat_map (edges_of_load s.test run) (load_nodes s.test) (get_or (load_nodes s.test) rank.0 0) (h.from, h.to) load here) in
        let ends = within_run h.from h.to (few_run_edges-among s run sound inside h.from h.to edge) in
        let k = place_in order h.from ends.0 in
        let m = place_in order h.to ends.1 in
        let k_is : k.0 ≡ i = sym (placed.at k.0 k.1) ∙ ap (λ (x : ℕ). get_or places x 0) k.2 ∙ h.source_is in
        let m_is : m.0 ≡ j = sym (placed.at m.0 m.1) ∙ ap (λ (x : ℕ). get_or places x 0) m.2 ∙ h.target_is in
        let from_is : get_or order i 0 ≡ h.from = ap (λ (x : ℕ). get_or order x 0) (sym k_is) ∙ k.2 in
        let to_is : get_or order j 0 ≡ h.to = ap (λ (x : ℕ). get_or order x 0) (sym m_is) ∙ m.2 in
        let below = k.1 in
        record {
          within = omega (arith, below, k_is);
          earlier = h.earlier;
          edge = edge_at (HasEdge (few_run_edges s run)) order i j h.from h.to from_is to_is edge;
        }

    -- So the edges of the loads that changed have the window of all.
    pub window_of_changed : (window : Option Window) → IsSpan (LeadsBack places (changed_edges s.test base run (load_count s.test))) window → IsWindow (Edge s.model s.test run) order window
    window_of_changed window h =
        window_of_all (Edge s.model s.test run) (HasEdge (few_run_edges s run)) order (few_run_edges-among s run sound inside) (few_run_edges-reaching s run sound inside) within_run window
        (same_span (LeadsBack places (changed_edges s.test base run (load_count s.test))) (PointsBackward (HasEdge (few_run_edges s run)) order) changed_backward backward_changed window h)

  module _ (w : Window) (span : Spans (PointsBackward (Edge s.model s.test run) order) w) where
    -- the least order of the window's nodes by the few edges is the least by all
    pub least_of_run : (nodes : List ℕ) → IsLeastOrder (HasEdge (few_run_edges s run)) (window_nodes order w) nodes → IsLeastOrder (Edge s.model s.test run) (window_nodes order w) nodes
    least_of_run nodes l =
        least_of_window (Edge s.model s.test run) (HasEdge (few_run_edges s run)) order (few_run_edges-among s run sound inside) (few_run_edges-reaching s run sound inside) within_run w span nodes l

    pub none_of_window : HasNoOrder (HasEdge (few_run_edges s run)) (window_nodes order w) → HasNoOrder (Edge s.model s.test run) (window_nodes order w)
    none_of_window none = no_order_by_all (Edge s.model s.test run) (HasEdge (few_run_edges s run)) (few_run_edges-among s run sound inside) (window_nodes order w) none
