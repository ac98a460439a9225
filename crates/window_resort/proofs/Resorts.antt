-- One step of a checker from a base, by what its parts find.
use Rattle.std.proofs.Common.{◌≡◌, ◌∙◌, ℕ, ◌+◌, ◌*◌, ◌<◌, ◌≤◌, List, Bool, true, All, length, refl, sym, ap, subst}
use Rattle.std.specs.Prelude.{Option, Some, None}
use Rattle.orders.specs.Orders.{HasNoOrder, IsLeastOrder}
use Rattle.test_lang.specs.declared.op.MemModel.{MemModel}
use Rattle.test_lang.specs.Edges.{Edge, IsRunOrder}
use Rattle.test_lang.specs.Program.{Program, op_count}
use Rattle.test_lang.specs.Runs.{IsInside}
use Rattle.test_lang.specs.Values.{load_count}
use Rattle.digraph.specs.Digraph.{HasEdge, edges_out}
use Rattle.digraph.specs.Roomed.{Roomed}
use Rattle.graph_model.specs.LoadEdges.{load_edge_room}
use Rattle.graph_model.specs.StaticGraph.{StaticGraph, IsStaticGraph, few_run_edges}
use Rattle.window_resort.specs.declared.spans.Window.{Window}
use Rattle.window_resort.specs.declared.verdicts.Verdict.{Verdict}
use Rattle.window_resort.specs.declared.verdicts.Verdict.TheVariants.{Resorted, Cycle}
use Rattle.window_resort.specs.Bounds.{HasFewReads, changed_count}
use Rattle.window_resort.specs.Changes.{HasPlaces, LeadsBack, changed_edges}
use Rattle.window_resort.specs.Tables.{HasEdges, HasUnchanged, IsBase}
use Rattle.window_resort.specs.Walks.{Base, TakesRun}
use Rattle.window_resort.specs.Walks.TakesRun.{resorted, unresorted}
use Rattle.window_resort.specs.Windows.{IsSpan, IsWindow, window_length, window_nodes, with_window}
use Rattle.window_resort.proofs.Bases.{base_if, base_of, base_true}
use Rattle.window_resort.proofs.NextRuns.{few_reads_sorted, nodes_in}
use Rattle.window_resort.proofs.Rows.{unchanged_rows}
use Rattle.window_resort.proofs.RunWindows.{kept_order, least_of_run, none_of_window, order_of_run, window_of_changed, within_order}
use Rattle.window_resort.proofs.WindowOrders.{span_rises}

-- of a checker that has a base
pub taken_as : (m : MemModel) (p : Program) (has : Bool) → has ≡ true → (run : List ℕ) (verdict : Verdict) (old_run old_order new_run new_order next_run next_order : List ℕ) →
    new_run ≡ next_run → new_order ≡ next_order → TakesRun m p (Some (base_of old_run old_order)) run verdict (Some (base_of next_run next_order)) →
    TakesRun m p (base_if has old_run old_order) run verdict (base_if has new_run new_order)
taken_as m p has has_it run verdict old_run old_order new_run new_order next_run next_order r o h =
    let after : base_if has new_run new_order ≡ Some (base_of next_run next_order) =
    base_true has new_run new_order has_it ∙ ap (λ (x : List ℕ). Some (base_of x new_order)) r ∙ ap (λ (x : List ℕ). Some (base_of next_run x)) o in
    subst (λ (b : Option Base). TakesRun m p b run verdict (base_if has new_run new_order)) (sym (base_true has old_run old_order has_it))
    (subst (λ (b : Option Base). TakesRun m p (Some (base_of old_run old_order)) run verdict b) (sym after) h)

module _ (s : StaticGraph) (base run order places : List ℕ) (rows : List (Roomed (ℕ × ℕ))) (b : IsBase s base order places rows) where
  pub rows_unchanged : (base_is : List ℕ) (rows_are : List (Roomed (ℕ × ℕ))) → base_is ≡ base → rows_are ≡ rows → HasUnchanged s.test base_is run rows_are
  rows_unchanged base_is rows_are e f =
      subst (λ (x : List ℕ). HasUnchanged s.test x run rows_are) (sym e) (subst (λ (x : List (Roomed (ℕ × ℕ))). HasUnchanged s.test base run x) (sym f) (unchanged_rows s.test base run rows b.edges))

  pub nodes_below_count : (n : ℕ) → n ≡ op_count s.test → All (λ node. node < n) order
  nodes_below_count n e = subst (λ (k : ℕ). All (λ node. node < k) order) (sym e) (nodes_in (op_count s.test) (Edge s.model s.test base) order b.is_order)

  module _ (sound : IsStaticGraph s) (inside : IsInside s.test run) where
    -- what the edges of the loads that changed span is the window
    pub window_found : (found : Option Window) (base_is places_are : List ℕ) → base_is ≡ base → places_are ≡ places →
        IsSpan (LeadsBack places_are (changed_edges s.test base_is run (load_count s.test))) found → IsWindow (Edge s.model s.test run) order found
    window_found found base_is places_are e f h =
        window_of_changed s base run order sound inside b.is_order places b.placed found
        (subst (λ (x : List ℕ). IsSpan (LeadsBack x (changed_edges s.test base run (load_count s.test))) found) f
        (subst (λ (x : List ℕ). IsSpan (LeadsBack places_are (changed_edges s.test x run (load_count s.test))) found) e h))

    pub base_kept : IsWindow (Edge s.model s.test run) order None → (new_rows : List (Roomed (ℕ × ℕ))) → HasEdges s.test run new_rows → IsBase s run order places new_rows
    base_kept none new_rows edges = record { inside = inside; is_order = kept_order s.model s.test base run order b.is_order none; placed = b.placed; edges = edges }

    module _ (w : Window) (span : IsWindow (Edge s.model s.test run) order (Some w)) where
      pub window_rises : w.first ≤ w.last
      window_rises = span_rises (Edge s.model s.test run) order (within_order s.model s.test base run order b.is_order) w span

      pub window_within : w.last < length order
      window_within = span.from_last.1.within

      module _ (edges : List (ℕ × ℕ)) (few : edges ≡ few_run_edges s run) where
        pub taken_cycle : (count : ℕ) → count ≡ window_length w → HasNoOrder (HasEdge edges) (window_nodes order w) →
            TakesRun s.model s.test (Some (base_of base order)) run (Cycle (Some count)) (Some (base_of base order))
        taken_cycle count e none =
            unresorted (base_of base order) w refl span
            (none_of_window s base run order sound inside b.is_order w span (subst (λ (x : List (ℕ × ℕ)). HasNoOrder (HasEdge x) (window_nodes order w)) few none))
            (ap (λ (n : ℕ). Cycle (Some n)) e) refl

        module _ (nodes : List ℕ) (least : IsLeastOrder (HasEdge edges) (window_nodes order w) nodes) where
          least_of_all : IsLeastOrder (Edge s.model s.test run) (window_nodes order w) nodes
          least_of_all = least_of_run s base run order sound inside b.is_order w span nodes (subst (λ (x : List (ℕ × ℕ)). IsLeastOrder (HasEdge x) (window_nodes order w) nodes) few least)

          pub taken_resorted : (count : ℕ) → count ≡ window_length w →
              TakesRun s.model s.test (Some (base_of base order)) run (Resorted count) (Some (base_of run (with_window order w nodes)))
          taken_resorted count e = resorted (base_of base order) w nodes refl span least_of_all (ap Resorted e) refl

          pub base_resorted : (new_order new_places : List ℕ) → new_order ≡ with_window order w nodes → HasPlaces new_order new_places → (new_rows : List (Roomed (ℕ × ℕ))) → HasEdges s.test run new_rows →
              IsBase s run new_order new_places new_rows
          base_resorted new_order new_places e placed new_rows listed = record {
            inside = inside;
            is_order = subst (λ (x : List ℕ). IsRunOrder s.model s.test run x) (sym e) (order_of_run s.model s.test base run order b.is_order w span nodes least_of_all.is_order);
            placed = placed;
            edges = listed;
          }

        pub few_reads_of : (has : Bool) → has ≡ true → (base_is : List ℕ) → base_is ≡ base → (before mid after : ℕ) → mid ≤ before + changed_count s.test base_is run * load_edge_room s.test →
            after ≡ mid + 2 * edges_out edges (window_nodes order w) → HasFewReads s (base_if has base order) run before after
        few_reads_of has has_it base_is same before mid after count ticks =
            subst (λ (found : Option Base). HasFewReads s found run before after) (sym (base_true has base order has_it))
            (few_reads_sorted s base run order before after mid w span
            (subst (λ (x : List ℕ). mid ≤ before + changed_count s.test x run * load_edge_room s.test) same count)
            (ticks ∙ ap (λ (x : List (ℕ × ℕ)). mid + 2 * edges_out x (window_nodes order w)) few))
