-- The window of few edges that reach as far as all is the window of all.
use Rattle.std.proofs.Common.{◌≡◌, inl, inr, ℕ, ◌+◌, ◌<◌, ◌≤◌, List, [], ◌∷◌, length, get_or, arith, refl, sym, subst}
use Rattle.std.specs.Prelude.{Option, Some, None}
use Rattle.orders.specs.Paths.{Linked}
use Rattle.orders.specs.Reductions.{IsAmong, IsReaching, IsWithin}
use Rattle.window_resort.specs.declared.spans.Window.{Window}
use Rattle.window_resort.specs.Windows.{PointsBackward, Spans, IsSpan, IsWindow}
use Rattle.window_resort.proofs.Places.{le_or_lt, place_in}

pub edge_at : (F : ℕ → ℕ → Type 0) (order : List ℕ) (i j a b : ℕ) → get_or order i 0 ≡ a → get_or order j 0 ≡ b → F a b → F (get_or order i 0) (get_or order j 0)
edge_at F order i j a b p q e = subst (λ (x : ℕ). F x (get_or order j 0)) (sym p) (subst (F a) (sym q) e)

-- a path from the place s or a later one to a place before s has an edge that goes back over s
pub crossing : (F : ℕ → ℕ → Type 0) (order : List ℕ) → IsWithin F order → (s a : ℕ) (between : List ℕ) (b i j : ℕ) → Linked F a between b → i < length order →
    get_or order i 0 ≡ a → get_or order j 0 ≡ b → s ≤ i → j < s → (source : ℕ) × (target : ℕ) × PointsBackward F order source target × (s ≤ source) × (target < s)
crossing F order within s a [] b i j path below p q from to =
    (i, j, record { within = below; earlier = omega (arith, from, to); edge = edge_at F order i j a b p q path }, from, to)
crossing F order within s a (c ∷ between) b i j path below p q from to =
    let k = place_in order c (within a c path.0).1 in
    elim (le_or_lt s k.0) [
      | inl later ↦ crossing F order within s c between b k.0 j path.1 k.1 k.2 q later to
      | inr sooner ↦ (i, k.0, record { within = below; earlier = omega (arith, from, sooner); edge = edge_at F order i k.0 a c p k.2 path.0 }, from, sooner)
    ]

-- sets of places that are the same have the same span
pub same_span : (A B : ℕ → ℕ → Type 0) → ((i j : ℕ) → A i j → B i j) → ((i j : ℕ) → B i j → A i j) → (window : Option Window) → IsSpan A window → IsSpan B window
same_span A B to back None none = λ i j b. none i j (back i j b)
same_span A B to back (Some w) h = record {
  to_first = (h.to_first.0, to h.to_first.0 w.first h.to_first.1);
  first = λ i j b. h.first i j (back i j b);
  from_last = (h.from_last.0, to w.last h.from_last.0 h.from_last.1);
  last = λ i j b. h.last i j (back i j b);
}

module _ (E F : ℕ → ℕ → Type 0) (order : List ℕ) (among : IsAmong F E) where
  pub backward_of_few : (i j : ℕ) → PointsBackward F order i j → PointsBackward E order i j
  backward_of_few i j h = record { within = h.within; earlier = h.earlier; edge = among (get_or order i 0) (get_or order j 0) h.edge }

  module _ (reaching : IsReaching F E) (within : IsWithin E order) where
    within_few : IsWithin F order
    within_few a b h = within a b (among a b h)

    -- an edge of the whole set that points backward is crossed at each place between by one of the few
    backward_of_all : (s i j : ℕ) → s ≤ i → j < s → PointsBackward E order i j → (source : ℕ) × (target : ℕ) × PointsBackward F order source target × (s ≤ source) × (target < s)
    backward_of_all s i j from to h =
        let path = reaching (get_or order i 0) (get_or order j 0) h.edge in
        crossing F order within_few s (get_or order i 0) path.0 (get_or order j 0) i j path.1 h.within refl refl from to

    span_of_few : (w : Window) → Spans (PointsBackward E order) w → Spans (PointsBackward F order) w
    span_of_few w h =
        let lt = h.to_first.1.earlier in
        let a = backward_of_all (w.first + 1) h.to_first.0 w.first (omega (arith, lt)) (omega arith) h.to_first.1 in
        let near = a.4 in
        let least = h.first a.0 a.1 (backward_of_few a.0 a.1 a.2) in
        let at_first : a.1 ≡ w.first = omega (arith, near, least) in
        let lt' = h.from_last.1.earlier in
        let z = backward_of_all w.last w.last h.from_last.0 (omega arith) lt' h.from_last.1 in
        let near' = z.3 in
        let most = h.last z.0 z.1 (backward_of_few z.0 z.1 z.2) in
        let at_last : z.0 ≡ w.last = omega (arith, near', most) in
        record {
          to_first = (a.0, subst (PointsBackward F order a.0) at_first a.2);
          first = λ i j k. h.first i j (backward_of_few i j k);
          from_last = (z.1, subst (λ (i : ℕ). PointsBackward F order i z.1) at_last z.2);
          last = λ i j k. h.last i j (backward_of_few i j k);
        }

    span_of_all : (w : Window) → Spans (PointsBackward F order) w → Spans (PointsBackward E order) w
    span_of_all w h = record {
      to_first = (h.to_first.0, backward_of_few h.to_first.0 w.first h.to_first.1);
      first = λ i j k.
          let lt = k.earlier in
          let a = backward_of_all (j + 1) i j (omega (arith, lt)) (omega arith) k in
          let near = a.4 in
          let least = h.first a.0 a.1 a.2 in
          omega (arith, near, least);
      from_last = (h.from_last.0, backward_of_few w.last h.from_last.0 h.from_last.1);
      last = λ i j k.
          let lt = k.earlier in
          let z = backward_of_all i i j (omega arith) lt k in
          let near = z.3 in
          let most = h.last z.0 z.1 z.2 in
          omega (arith, near, most);
    }

    pub window_of_few : (window : Option Window) → IsWindow E order window → IsWindow F order window
    window_of_few None none = λ i j k. none i j (backward_of_few i j k)
    window_of_few (Some w) h = span_of_few w h

    pub window_of_all : (window : Option Window) → IsWindow F order window → IsWindow E order window
    window_of_all None none = λ i j k. let lt = k.earlier in let a = backward_of_all i i j (omega arith) lt k in none a.0 a.1 a.2
    window_of_all (Some w) h = span_of_all w h
