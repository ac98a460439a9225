-- Orders of the window's nodes, by few edges and by all.
use Rattle.std.proofs.Common.{◌≡◌, inl, inr, ℕ, ◌+◌, ◌-◌, ◌<◌, ◌≤◌, List, [], ◌∷◌, length, get_or, drop, Contains, AllPairs, ◌≢◌, Bool, arith, sym, ap, subst, ◌∙◌}
use Rattle.std.proofs.lemmas.List.{get_or-take, get_or-drop, length-take, length-drop}
use Rattle.orders.specs.Paths.{Linked}
use Rattle.orders.specs.Orders.{IsOrder, IsLeastOrder, HasNoOrder}
use Rattle.orders.specs.Reductions.{IsAmong, IsReaching, IsWithin}
use Rattle.orders.proofs.CyclesOfPaths.{reach_leaves_none, reach_of_cycle}
use Rattle.orders.proofs.FewEdges.{least_order_by_all, order_by_few}
use Rattle.orders.proofs.OrderOrCycle.{Told, order_or_cycle_lem}
use Rattle.window_resort.specs.declared.spans.Window.{Window}
use Rattle.window_resort.specs.Windows.{PointsBackward, Spans, window_nodes}
use Rattle.window_resort.proofs.Places.{le_or_lt, node_at, place_in}
use Rattle.std.specs.Prelude.{Some}
use Rattle.window_resort.proofs.BackwardEdges.{crossing, window_of_few}

-- the window's nodes by their places

module _ (order : List ℕ) (w : Window) (within : w.last < length order) (rising : w.first ≤ w.last) where
  pub window_read : (k d : ℕ) → w.first + k ≤ w.last → get_or (window_nodes order w) k d ≡ get_or order (w.first + k) d
  window_read k d below = get_or-take (w.last + 1 - w.first) (drop w.first order) k d (omega (arith, below)) ∙ get_or-drop w.first order k d

  pub length-window : length (window_nodes order w) ≡ w.last + 1 - w.first
  length-window =
      let front = length-take (w.last + 1 - w.first) (drop w.first order) in
      let rest = length-drop w.first order in
      omega (arith, front, rest, within, rising)

  pub window_at : (a : ℕ) → Contains (window_nodes order w) a → (i : ℕ) × (w.first ≤ i) × (i ≤ w.last) × (get_or order i 0 ≡ a)
  window_at a h =
      let k = place_in (window_nodes order w) a h in
      let below = k.1 in
      let long = length-window in
      let near : w.first + k.0 ≤ w.last = omega (arith, below, long, rising) in
      (w.first + k.0, omega arith, near, sym (window_read k.0 0 near) ∙ k.2)

  pub at_window : (i a : ℕ) → w.first ≤ i → i ≤ w.last → get_or order i 0 ≡ a → Contains (window_nodes order w) a
  at_window i a from to same =
      let long = length-window in
      let at : w.first + (i - w.first) ≡ i = omega (arith, from) in
      let below : i - w.first < length (window_nodes order w) = omega (arith, long, from, to) in
      let near : w.first + (i - w.first) ≤ w.last = omega (arith, from, to) in
      subst (Contains (window_nodes order w)) (window_read (i - w.first) 0 near ∙ ap (λ (j : ℕ). get_or order j 0) at ∙ same) (node_at (window_nodes order w) (i - w.first) below)

  pub window_once : AllPairs (λ a b. a ≢ b) order → AllPairs (λ a b. a ≢ b) (window_nodes order w)
  window_once once i j d lt below same =
      let long = length-window in
      let near : w.first + i ≤ w.last = omega (arith, lt, below, long, rising) in
      let near' : w.first + j ≤ w.last = omega (arith, below, long, rising) in
      once (w.first + i) (w.first + j) d (omega (arith, lt)) (omega (arith, near', within)) (sym (window_read i d near) ∙ same ∙ window_read j d near')

-- the edges among nodes of a list
abbrev pub Inside : (ℕ → ℕ → Type 0) → List ℕ → ℕ → ℕ → Type 0
Inside E nodes a b = E a b × Contains nodes a × Contains nodes b

module _ (E : ℕ → ℕ → Type 0) (nodes : List ℕ) where
  order_inside : (order : List ℕ) → IsOrder E nodes order → IsOrder (Inside E nodes) nodes order
  order_inside order o = order_by_few E (Inside E nodes) (λ a b h. h.0) nodes order o

  order_outside : (order : List ℕ) → IsOrder (Inside E nodes) nodes order → IsOrder E nodes order
  order_outside order o = record {
    same_nodes = o.same_nodes;
    once = o.once;
    forward = λ i j li lj e.
        o.forward i j li lj (e, (o.same_nodes (get_or order i 0)).0 (node_at order i li), (o.same_nodes (get_or order j 0)).0 (node_at order j lj));
  }

  least_inside : (order : List ℕ) → IsLeastOrder E nodes order → IsLeastOrder (Inside E nodes) nodes order
  least_inside order l = record { is_order = order_inside order l.is_order; least = λ other o. l.least other (order_outside other o) }

  least_outside : (order : List ℕ) → IsLeastOrder (Inside E nodes) nodes order → IsLeastOrder E nodes order
  least_outside order l = record { is_order = order_outside order l.is_order; least = λ other o. l.least other (order_inside other o) }

module _ (F : ℕ → ℕ → Type 0) (order : List ℕ) (within : IsWithin F order) (w : Window) (span : Spans (PointsBackward F order) w) where
  last_within : w.last < length order
  last_within = span.from_last.1.within

  pub span_rises : w.first ≤ w.last
  span_rises =
      let least = span.first w.last span.from_last.0 span.from_last.1 in
      let lt = span.from_last.1.earlier in
      omega (arith, least, lt)

  -- a path between two nodes of the window stays in it
  pub linked_in_window : (a : ℕ) (between : List ℕ) (b : ℕ) → Linked F a between b → Contains (window_nodes order w) a → Contains (window_nodes order w) b
      → Linked (Inside F (window_nodes order w)) a between b
  linked_in_window a [] b path p q = (path, p, q)
  linked_in_window a (c ∷ between) b path p q =
      let i = window_at order w last_within span_rises a p in
      let j = window_at order w last_within span_rises b q in
      let k = place_in order c (within a c path.0).1 in
      let not_low : k.0 < w.first → ⊥ = λ lt.
      let from = i.1 in
      let to = i.2 in
      let edge : PointsBackward F order i.0 k.0 = record {
        within = omega (arith, to, last_within);
        earlier = omega (arith, from, lt);
        edge = subst (λ (x : ℕ). F x (get_or order k.0 0)) (sym i.3) (subst (F a) (sym k.2) path.0);
      } in
      let least = span.first i.0 k.0 edge in
      omega (arith, least, lt)
      in
      let not_high : w.last < k.0 → ⊥ = λ lt.
      let to = j.2 in
      let over = crossing F order within (w.last + 1) c between b k.0 j.0 path.1 k.1 k.2 j.3 (omega (arith, lt)) (omega (arith, to)) in
      let most = span.last over.0 over.1 over.2 in
      let near = over.3 in
      omega (arith, most, near)
      in
      let low : w.first ≤ k.0 = elim (le_or_lt w.first k.0) [ inl le ↦ le | inr lt ↦ absurd (not_low lt) ] in
      let high : k.0 ≤ w.last = elim (le_or_lt k.0 w.last) [ inl le ↦ le | inr lt ↦ absurd (not_high lt) ] in
      let here = at_window order w last_within span_rises k.0 c low high k.2 in
      ((path.0, p, here), linked_in_window c between b path.1 here q)

module _ (E F : ℕ → ℕ → Type 0) (order : List ℕ) (among : IsAmong F E) (reaching : IsReaching F E) (within : IsWithin E order) (w : Window) (span : Spans (PointsBackward E order) w) where
  reaching_inside : IsReaching (Inside F (window_nodes order w)) (Inside E (window_nodes order w))
  reaching_inside a b h =
      let path = reaching a b h.0 in
      (path.0, linked_in_window F order (λ x y k. within x y (among x y k)) w (window_of_few E F order among reaching within (Some w) span) a path.0 b path.1 h.1 h.2)

  among_inside : IsAmong (Inside F (window_nodes order w)) (Inside E (window_nodes order w))
  among_inside a b h = (among a b h.0, h.1, h.2)

  -- the least order of the window's nodes by the few edges is the least by all
  pub least_of_window : (nodes : List ℕ) → IsLeastOrder F (window_nodes order w) nodes → IsLeastOrder E (window_nodes order w) nodes
  least_of_window nodes l =
      least_outside E (window_nodes order w) nodes
      (least_order_by_all (Inside E (window_nodes order w)) (Inside F (window_nodes order w)) among_inside reaching_inside (window_nodes order w) nodes (λ a b h. (h.1, h.2))
      (least_inside F (window_nodes order w) nodes l))

-- Where nodes have no order, no list that has all ends of edges among it has one.
pub no_order_of_some : (edge : ℕ → ℕ → Bool) (nodes some : List ℕ) → IsWithin (Told edge) nodes → AllPairs (λ a b. a ≢ b) some → HasNoOrder (Told edge) some → HasNoOrder (Told edge) nodes
no_order_of_some edge nodes some within once none = elim (order_or_cycle_lem edge some once) [
  | inl o ↦ absurd (none o.0 o.1)
  | inr c ↦ reach_leaves_none (Told edge) nodes within c.0 (reach_of_cycle (Told edge) c.0 c.1)
]
