-- Few edges in place of many: what follows where the few are among the many, and reach along paths each of them.
use Rattle.std.proofs.Common.{◌≡◌, ℕ, ◌<◌, List, [], ◌∷◌, ◌++◌, length, get_or, Contains, arith, subst, sym, ◌∙◌}
use Rattle.std.proofs.lemmas.List.{get_or_default}
use Rattle.orders.specs.Paths.{Linked, Reach}
use Rattle.orders.specs.Orders.{IsOrder, IsLeastOrder, HasNoOrder}
use Rattle.orders.specs.Reductions.{IsAmong, IsReaching, IsWithin}

-- a path, and then a path
linked_append : (E : ℕ → ℕ → Type 0) (a : ℕ) (first : List ℕ) (b : ℕ) (second : List ℕ) (c : ℕ) → Linked E a first b → Linked E b second c → Linked E a (first ++ b ∷ second) c
linked_append E a [] b second c p q = (p, q)
linked_append E a (x ∷ first) b second c p q = (p.0, linked_append E x first b second c p.1 q)

pub reach_append : (E : ℕ → ℕ → Type 0) (a b c : ℕ) → Reach E a b → Reach E b c → Reach E a c
reach_append E a b c p q = (p.0 ++ b ∷ q.0, linked_append E a p.0 b q.0 c p.1 q.1)

-- a path along edges that are reached is reached
linked_reaches : (E F : ℕ → ℕ → Type 0) → IsReaching F E → (a : ℕ) (between : List ℕ) (b : ℕ) → Linked E a between b → Reach F a b
linked_reaches E F reaching a [] b p = reaching a b p
linked_reaches E F reaching a (x ∷ between) b p = reach_append F a x b (reaching a x p.0) (linked_reaches E F reaching x between b p.1)

linked_among : (E F : ℕ → ℕ → Type 0) → IsAmong F E → (a : ℕ) (between : List ℕ) (b : ℕ) → Linked F a between b → Linked E a between b
linked_among E F among a [] b p = among a b p
linked_among E F among a (x ∷ between) b p = (among a x p.0, linked_among E F among x between b p.1)

pub reach_by_few : (E F : ℕ → ℕ → Type 0) → IsReaching F E → (a b : ℕ) → Reach E a b → Reach F a b
reach_by_few E F reaching a b p = linked_reaches E F reaching a p.0 b p.1

pub reach_by_all : (E F : ℕ → ℕ → Type 0) → IsAmong F E → (a b : ℕ) → Reach F a b → Reach E a b
reach_by_all E F among a b p = (p.0, linked_among E F among a p.0 b p.1)

-- the place of a node in an order
pub place_of : (E : ℕ → ℕ → Type 0) (nodes order : List ℕ) → IsOrder E nodes order → (x : ℕ) → Contains nodes x → (k : ℕ) × (k < length order) × (get_or order k 0 ≡ x)
place_of E nodes order o x h =
    let at = (o.same_nodes x).1 h in
    (at.0, at.1, get_or_default order at.0 0 x at.1 ∙ at.2)

-- a path leads forward in an order
pub linked_forward : (F : ℕ → ℕ → Type 0) (nodes order : List ℕ) → IsOrder F nodes order → IsWithin F nodes → (i : ℕ) (between : List ℕ) (j : ℕ) → i < length order → j < length order →
    Linked F (get_or order i 0) between (get_or order j 0) → i < j
linked_forward F nodes order o within i [] j li lj p = o.forward i j li lj p
linked_forward F nodes order o within i (x ∷ between) j li lj p =
    let k = place_of F nodes order o x (within (get_or order i 0) x p.0).1 in
    let step : i < k.0 = o.forward i k.0 li k.1 (subst (F (get_or order i 0)) (sym k.2) p.0) in
    let rest : k.0 < j = linked_forward F nodes order o within k.0 between j k.1 lj (subst (λ (y : ℕ). Linked F y between (get_or order j 0)) (sym k.2) p.1) in
    omega (arith, step, rest)

-- an order for all edges is one for the few
pub order_by_few : (E F : ℕ → ℕ → Type 0) → IsAmong F E → (nodes order : List ℕ) → IsOrder E nodes order → IsOrder F nodes order
order_by_few E F among nodes order o = record {
  same_nodes = o.same_nodes;
  once = o.once;
  forward = λ i j li lj e. o.forward i j li lj (among (get_or order i 0) (get_or order j 0) e);
}

-- and the other way round, where all edges lead from nodes to nodes
pub order_by_all : (E F : ℕ → ℕ → Type 0) → IsAmong F E → IsReaching F E → (nodes order : List ℕ) → IsWithin E nodes → IsOrder F nodes order → IsOrder E nodes order
order_by_all E F among reaching nodes order within o = record {
  same_nodes = o.same_nodes;
  once = o.once;
  forward = λ i j li lj e.
      let p = reaching (get_or order i 0) (get_or order j 0) e in
      linked_forward F nodes order o (λ a b f. within a b (among a b f)) i p.0 j li lj p.1;
}

-- so the least order is the same, and there is none for the one exactly where there is none for the other
pub least_order_by_all : (E F : ℕ → ℕ → Type 0) → IsAmong F E → IsReaching F E → (nodes order : List ℕ) → IsWithin E nodes → IsLeastOrder F nodes order → IsLeastOrder E nodes order
least_order_by_all E F among reaching nodes order within l = record {
  is_order = order_by_all E F among reaching nodes order within l.is_order;
  least = λ other o. l.least other (order_by_few E F among nodes other o);
}

pub least_order_by_few : (E F : ℕ → ℕ → Type 0) → IsAmong F E → IsReaching F E → (nodes order : List ℕ) → IsWithin E nodes → IsLeastOrder E nodes order → IsLeastOrder F nodes order
least_order_by_few E F among reaching nodes order within l = record {
  is_order = order_by_few E F among nodes order l.is_order;
  least = λ other o. l.least other (order_by_all E F among reaching nodes other within o);
}

pub no_order_by_all : (E F : ℕ → ℕ → Type 0) → IsAmong F E → (nodes : List ℕ) → HasNoOrder F nodes → HasNoOrder E nodes
no_order_by_all E F among nodes none = λ order o. none order (order_by_few E F among nodes order o)

pub no_order_by_few : (E F : ℕ → ℕ → Type 0) → IsAmong F E → IsReaching F E → (nodes : List ℕ) → IsWithin E nodes → HasNoOrder E nodes → HasNoOrder F nodes
no_order_by_few E F among reaching nodes within none = λ order o. none order (order_by_all E F among reaching nodes order within o)
