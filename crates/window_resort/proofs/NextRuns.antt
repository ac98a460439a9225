-- One run more, by what a checker finds of it.
use Rattle.std.proofs.Common.{◌≡◌, ℕ, ◌+◌, ◌*◌, ◌<◌, ◌≤◌, List, get_or, Contains, All, arith, refl, ap, subst, ◌∙◌}
use Rattle.std.specs.Prelude.{Option, Some, None}
use Rattle.std.proofs.lemmas.List.{get_or_default}
use Rattle.orders.specs.Orders.{IsOrder, nodes_below}
use Rattle.test_lang.specs.Edges.{Edge}
use Rattle.digraph.specs.Digraph.{edges_out}
use Rattle.graph_model.specs.LoadEdges.{load_edge_room}
use Rattle.graph_model.specs.StaticGraph.{StaticGraph, few_run_edges}
use Rattle.window_resort.specs.declared.spans.Window.{Window}
use Rattle.window_resort.specs.Bounds.{HasFewReads, changed_count, edges_at, sorted_nodes}
use Rattle.window_resort.specs.Windows.{IsSpan, IsWindow, PointsBackward, window_nodes}
use Rattle.window_resort.proofs.RunWindows.{below_listed}

-- a set of places has one span

same_ends : (a b : Window) → a.first ≡ b.first → a.last ≡ b.last → a ≡ b
same_ends a b first last =
    let both : record { first = a.first; last = a.last } ≡ b = ap (λ (f : ℕ). record { first = f; last = a.last }) first ∙ ap (λ (l : ℕ). record { first = b.first; last = l }) last in
    both

pub one_span : (Backward : ℕ → ℕ → Type 0) (a b : Option Window) → IsSpan Backward a → IsSpan Backward b → a ≡ b
one_span Backward None None h k = refl
one_span Backward None (Some b) h k = absurd (h k.to_first.0 b.first k.to_first.1)
one_span Backward (Some a) None h k = absurd (k h.to_first.0 a.first h.to_first.1)
one_span Backward (Some a) (Some b) h k =
    let p = h.first k.to_first.0 b.first k.to_first.1 in
    let q = k.first h.to_first.0 a.first h.to_first.1 in
    let r = h.last b.last k.from_last.0 k.from_last.1 in
    let s = k.last a.last h.from_last.0 h.from_last.1 in
    ap Some (same_ends a b (omega (arith, p, q)) (omega (arith, r, s)))

-- the nodes of an order of all

pub nodes_in : (n : ℕ) (E : ℕ → ℕ → Type 0) (order : List ℕ) → IsOrder E (nodes_below n) order → All (λ node. node < n) order
nodes_in n E order o = λ k d below. below_listed n (get_or order k d) ((o.same_nodes (get_or order k d)).0 (k, below, get_or_default order k (get_or order k d) d below))

pub nodes_among : (n : ℕ) (E : ℕ → ℕ → Type 0) (some order : List ℕ) → ((x : ℕ) → Contains some x → x < n) → IsOrder E some order → All (λ node. node < n) order
nodes_among n E some order few o = λ k d below. few (get_or order k d) ((o.same_nodes (get_or order k d)).0 (k, below, get_or_default order k (get_or order k d) d below))

-- what may be read

module _ (s : StaticGraph) (base run order : List ℕ) (before after mid : ℕ) where
  pub few_reads_kept : after ≤ before + changed_count s.test base run * load_edge_room s.test → HasFewReads s (Some (record { run = base; order = order })) run before after
  few_reads_kept few = λ window h. omega (arith, few)

  pub few_reads_sorted : (w : Window) → IsWindow (Edge s.model s.test run) order (Some w) → mid ≤ before + changed_count s.test base run * load_edge_room s.test →
      after ≡ mid + 2 * edges_out (few_run_edges s run) (window_nodes order w) → HasFewReads s (Some (record { run = base; order = order })) run before after
  few_reads_sorted w span few ticks = λ window h.
      let same = one_span (PointsBackward (Edge s.model s.test run) order) (Some w) window span h in
      subst (λ (found : Option Window). after ≤ before + (changed_count s.test base run * load_edge_room s.test + 4 * edges_at s run (sorted_nodes order found))) same (omega (arith, few, ticks))
