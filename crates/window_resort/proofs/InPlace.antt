-- The window's nodes in another order, put in place.
use Rattle.std.proofs.Common.{◌≡◌, ◌≢◌, ◌⊎◌, inl, inr, ℕ, ◌+◌, ◌-◌, ◌<◌, ◌≤◌, List, ◌++◌, length, get_or, take, drop, Contains, AllPairs, arith, length-append, refl, sym, ap, subst, ◌∙◌}
use Rattle.std.specs.Prelude.{◌↔◌, None}
use Rattle.std.proofs.lemmas.List.{get_or-append_right, get_or_append_left, get_or-take, get_or-drop, get_or_default, length-drop, length-take-le}
use Rattle.orders.specs.Orders.{IsOrder}
use Rattle.window_resort.specs.declared.spans.Window.{Window}
use Rattle.window_resort.specs.Windows.{PointsBackward, Spans, IsWindow, window_nodes, with_window}
use Rattle.window_resort.proofs.Places.{le_or_lt, node_at, one_place, place_in, same_length, stands_at}
use Rattle.window_resort.proofs.WindowOrders.{at_window, length-window, window_at, window_once}

-- without an edge that points backward the list is an order as it stands
pub order_as_it_is : (E : ℕ → ℕ → Type 0) (nodes order : List ℕ) → ((x : ℕ) → Contains order x ↔ Contains nodes x) → AllPairs (λ a b. a ≢ b) order → ((a : ℕ) → E a a → ⊥) →
    IsWindow E order None → IsOrder E nodes order
order_as_it_is E nodes order same_nodes once no_loop none = record {
  same_nodes = same_nodes;
  once = once;
  forward = λ i j li lj e. elim (le_or_lt j i) [
    | inl le ↦ elim (le_or_lt i j) [
      | inl le' ↦
          let same : i ≡ j = omega (arith, le, le') in
          absurd (no_loop (get_or order j 0) (subst (λ (k : ℕ). E (get_or order k 0) (get_or order j 0)) same e))
      | inr lt ↦ absurd (none i j (record { within = li; earlier = lt; edge = e }))
    ]
    | inr lt ↦ lt
  ];
}

module _ (order mid : List ℕ) (w : Window) (within : w.last < length order) (rising : w.first ≤ w.last) (long : length mid ≡ w.last + 1 - w.first) where
  abbrev first_part : List ℕ
  first_part = take w.first order

  abbrev last_part : List ℕ
  last_part = drop (w.last + 1) order

  length-first : length first_part ≡ w.first
  length-first = length-take-le w.first order (omega (arith, within, rising))

  pub length-with_window : length (with_window order w mid) ≡ length order
  length-with_window =
      let a = length-append first_part (mid ++ last_part) in
      let b = length-append mid last_part in
      let c = length-drop (w.last + 1) order in
      let d = length-first in
      omega (arith, a, b, c, d, long, within, rising)

  -- what stands at each place

  pub read_before : (i : ℕ) → i < w.first → get_or (with_window order w mid) i 0 ≡ get_or order i 0
  read_before i lt =
      let d = length-first in
      get_or_append_left first_part (mid ++ last_part) 0 i (omega (arith, d, lt)) ∙ get_or-take w.first order i 0 lt

  pub read_within : (i : ℕ) → w.first ≤ i → i ≤ w.last → get_or (with_window order w mid) i 0 ≡ get_or mid (i - w.first) 0
  read_within i from to =
      get_or-append_right first_part (mid ++ last_part) w.first i 0 length-first from
      ∙ get_or_append_left mid last_part 0 (i - w.first) (omega (arith, long, from, to, rising))

  pub read_after : (i : ℕ) → w.last < i → get_or (with_window order w mid) i 0 ≡ get_or order i 0
  read_after i lt =
      let at : (w.last + 1) + ((i - w.first) - (w.last + 1 - w.first)) ≡ i = omega (arith, lt, rising) in
      get_or-append_right first_part (mid ++ last_part) w.first i 0 length-first (omega (arith, lt, rising))
      ∙ get_or-append_right mid last_part (w.last + 1 - w.first) (i - w.first) 0 long (omega (arith, lt, rising))
      ∙ get_or-drop (w.last + 1) order ((i - w.first) - (w.last + 1 - w.first)) 0
      ∙ ap (λ (k : ℕ). get_or order k 0) at

  -- both places are in the window, or they are one outside of it
  abbrev Moves : ℕ → ℕ → Type 0
  Moves i k = ((w.first ≤ i) × (i ≤ w.last) × (w.first ≤ k) × (k ≤ w.last)) ⊎ (((i < w.first) ⊎ (w.last < i)) × (k ≡ i))

  module _ (same : (x : ℕ) → Contains mid x ↔ Contains (window_nodes order w) x) where
    -- where a node stood
    origin : (i : ℕ) → i < length order → (k : ℕ) × (k < length order) × (get_or (with_window order w mid) i 0 ≡ get_or order k 0) × Moves i k
    origin i below = elim (le_or_lt w.first i) [
      | inr lt ↦ (i, below, read_before i lt, inr (inl lt, refl))
      | inl from ↦ elim (le_or_lt i w.last) [
        | inr lt ↦ (i, below, read_after i lt, inr (inr lt, refl))
        | inl to ↦
            let node = node_at mid (i - w.first) (omega (arith, long, from, to, rising)) in
            let k = window_at order w within rising (get_or mid (i - w.first) 0) ((same (get_or mid (i - w.first) 0)).0 node) in
            let most = k.2 in
            (k.0, omega (arith, most, within), read_within i from to ∙ sym k.3, inl (from, to, k.1, k.2))
      ]
    ]

    -- and where it stands
    pub stands_with_window : (x : ℕ) → Contains order x → Contains (with_window order w mid) x
    stands_with_window x h =
        let k = place_in order x h in
        let below = k.1 in
        let all = length-with_window in
        elim (le_or_lt w.first k.0) [
          | inr lt ↦ stands_at (with_window order w mid) k.0 x (omega (arith, all, below)) (read_before k.0 lt ∙ k.2)
          | inl from ↦ elim (le_or_lt k.0 w.last) [
            | inr lt ↦ stands_at (with_window order w mid) k.0 x (omega (arith, all, below)) (read_after k.0 lt ∙ k.2)
            | inl to ↦
                let m = place_in mid x ((same x).1 (at_window order w within rising k.0 x from to k.2)) in
                let few = m.1 in
                let at : (w.first + m.0) - w.first ≡ m.0 = omega arith in
                stands_at (with_window order w mid) (w.first + m.0) x (omega (arith, all, few, long, within, rising))
                (read_within (w.first + m.0) (omega arith) (omega (arith, few, long, rising)) ∙ ap (λ (i : ℕ). get_or mid i 0) at ∙ m.2)
          ]
        ]

    pub stood_with_window : (x : ℕ) → Contains (with_window order w mid) x → Contains order x
    stood_with_window x h =
        let i = place_in (with_window order w mid) x h in
        let below = i.1 in
        let all = length-with_window in
        let k = origin i.0 (omega (arith, all, below)) in
        stands_at order k.0 x k.1 (sym k.2 ∙ i.2)

    module _ (once : AllPairs (λ a b. a ≢ b) order) (mid_once : AllPairs (λ a b. a ≢ b) mid) where
      -- two places of one node are one
      same_place : (i j : ℕ) → i < length order → j < length order → get_or (with_window order w mid) i 0 ≡ get_or (with_window order w mid) j 0 → i ≡ j
      same_place i j li lj e =
          let k = origin i li in
          let m = origin j lj in
          let one : k.0 ≡ m.0 = one_place order once k.0 m.0 k.1 m.1 (sym k.2 ∙ e ∙ m.2) in
          elim k.3 [
            | inl a ↦ elim m.3 [
              | inl b ↦
                  let from = a.0 in
                  let to = a.1 in
                  let from' = b.0 in
                  let to' = b.1 in
                  let at = one_place mid mid_once (i - w.first) (j - w.first) (omega (arith, long, from, to)) (omega (arith, long, from', to'))
                  (sym (read_within i from to) ∙ e ∙ read_within j from' to') in
                  omega (arith, at, from, from')
              | inr b ↦ let p = a.2 in let q = a.3 in let r = b.1 in absurd (elim b.0 [ inl lt ↦ omega (arith, one, p, q, r, lt) | inr lt ↦ omega (arith, one, p, q, r, lt) ])
            ]
            | inr a ↦ elim m.3 [
              | inl b ↦ let p = b.2 in let q = b.3 in let r = a.1 in absurd (elim a.0 [ inl lt ↦ omega (arith, one, p, q, r, lt) | inr lt ↦ omega (arith, one, p, q, r, lt) ])
              | inr b ↦ let p = a.1 in let q = b.1 in omega (arith, one, p, q)
            ]
          ]

      pub once_with_window : AllPairs (λ a b. a ≢ b) (with_window order w mid)
      once_with_window i j d lt below e =
          let all = length-with_window in
          let whole = with_window order w mid in
          let at = same_place i j (omega (arith, all, lt, below)) (omega (arith, all, below))
          (get_or_default whole i 0 d (omega (arith, lt, below)) ∙ e ∙ get_or_default whole j d 0 below) in
          omega (arith, at, lt)

-- an order of the window's nodes is as long as the window
pub length-order : (E : ℕ → ℕ → Type 0) (order mid : List ℕ) (w : Window) → w.last < length order → w.first ≤ w.last → AllPairs (λ a b. a ≢ b) order → IsOrder E (window_nodes order w) mid → length mid ≡ w.last + 1 - w.first
length-order E order mid w within rising once o =
    same_length mid (window_nodes order w) o.once (window_once order w within rising once) (λ x. (o.same_nodes x).0) (λ x. (o.same_nodes x).1)
    ∙ length-window order w within rising

-- An order of the window's nodes, put in place, is an order of all.
module _ (E : ℕ → ℕ → Type 0) (nodes order mid : List ℕ) (w : Window) (same_nodes : (x : ℕ) → Contains order x ↔ Contains nodes x) (once : AllPairs (λ a b. a ≢ b) order)
    (no_loop : (a : ℕ) → E a a → ⊥) (span : Spans (PointsBackward E order) w) (o : IsOrder E (window_nodes order w) mid) where
  last_in : w.last < length order
  last_in = span.from_last.1.within

  rises : w.first ≤ w.last
  rises =
      let least = span.first w.last span.from_last.0 span.from_last.1 in
      let lt = span.from_last.1.earlier in
      omega (arith, least, lt)

  pub length-mid : length mid ≡ w.last + 1 - w.first
  length-mid = length-order E order mid w last_in rises once o

  -- an edge that leads from a place to an earlier one, or to itself, is refuted
  not_back : (i j : ℕ) → i < length order → j < length order → E (get_or (with_window order w mid) i 0) (get_or (with_window order w mid) j 0) → j ≤ i → ⊥
  not_back i j li lj e le =
      let k = origin order mid w last_in rises length-mid o.same_nodes i li in
      let m = origin order mid w last_in rises length-mid o.same_nodes j lj in
      let edge : E (get_or order k.0 0) (get_or order m.0 0) = subst (λ (y : ℕ). E (get_or order k.0 0) y) m.2 (subst (λ (x : ℕ). E x (get_or (with_window order w mid) j 0)) k.2 e) in
      let inner : w.first ≤ i → i ≤ w.last → w.first ≤ j → j ≤ w.last → ⊥ = λ from to from' to'.
      let mid_long = length-mid in
      let lt = o.forward (i - w.first) (j - w.first) (omega (arith, mid_long, from, to)) (omega (arith, mid_long, from', to'))
      (subst (λ (y : ℕ). E (get_or mid (i - w.first) 0) y) (read_within order mid w last_in rises length-mid j from' to')
      (subst (λ (x : ℕ). E x (get_or (with_window order w mid) j 0)) (read_within order mid w last_in rises length-mid i from to) e)) in
      omega (arith, lt, le, from, from')
      in
      elim (le_or_lt k.0 m.0) [
        | inr lt ↦
            let back : PointsBackward E order k.0 m.0 = record { within = k.1; earlier = lt; edge = edge } in
            let least = span.first k.0 m.0 back in
            let most = span.last k.0 m.0 back in
            elim k.3 [
              | inl a ↦ elim m.3 [
                | inl b ↦ inner a.0 a.1 b.0 b.1
                | inr b ↦ let r = b.1 in elim b.0 [ inl out ↦ omega (arith, least, r, out) | inr out ↦ omega (arith, most, lt, r, out) ]
              ]
              | inr a ↦ let r = a.1 in elim a.0 [ inl out ↦ omega (arith, least, lt, r, out) | inr out ↦ omega (arith, most, r, out) ]
            ]
        | inl ahead ↦ elim k.3 [
          | inl a ↦ elim m.3 [
            | inl b ↦ inner a.0 a.1 b.0 b.1
            | inr b ↦
                let r = b.1 in
                let from = a.0 in
                let to = a.1 in
                let low = a.2 in
                elim b.0 [ inl out ↦ omega (arith, r, out, ahead, low) | inr out ↦ omega (arith, out, le, to) ]
          ]
          | inr a ↦ elim m.3 [
            | inl b ↦
                let r = a.1 in
                let from = b.0 in
                let high = b.3 in
                elim a.0 [ inl out ↦ omega (arith, out, le, from) | inr out ↦ omega (arith, r, out, ahead, high) ]
            | inr b ↦
                let r = a.1 in
                let r' = b.1 in
                let same : k.0 ≡ m.0 = omega (arith, r, r', ahead, le) in
                no_loop (get_or order m.0 0) (subst (λ (x : ℕ). E (get_or order x 0) (get_or order m.0 0)) same edge)
          ]
        ]
      ]

  pub order_in_place : IsOrder E nodes (with_window order w mid)
  order_in_place =
      let all = length-with_window order mid w last_in rises length-mid in
      record {
        same_nodes = λ x. (
          λ h. (same_nodes x).0 (stood_with_window order mid w last_in rises length-mid o.same_nodes x h),
          λ h. stands_with_window order mid w last_in rises length-mid o.same_nodes x ((same_nodes x).1 h),
        );
        once = once_with_window order mid w last_in rises length-mid o.same_nodes once o.once;
        forward = λ i j li lj e. elim (le_or_lt j i) [
          | inl le ↦ absurd (not_back i j (omega (arith, all, li)) (omega (arith, all, lj)) e le)
          | inr lt ↦ lt
        ];
      }
