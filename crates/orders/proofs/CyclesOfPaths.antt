-- A node that reaches itself lies on a cycle; a cycle leaves no order.
use Rattle.std.proofs.Common.{ℕ, List, [], ◌∷◌, get_or, Contains, inl, inr, arith, sym, subst}
use Rattle.std.proofs.lemmas.Bool.{cases_eq}
use Rattle.orders.specs.Paths.{Linked, Reach}
use Rattle.orders.specs.Orders.{HasNoOrder}
use Rattle.orders.specs.Cycles.{IsOnCycle}
use Rattle.orders.specs.Reductions.{IsWithin}
use Rattle.orders.proofs.Members.{Contains-nil, Contains-cons_cases, Contains-tail, cases_Contains}
use Rattle.orders.proofs.Distinct.{IsDistinct, pairs_of_distinct}
use Rattle.orders.proofs.FewEdges.{linked_forward, place_of}

-- a path on which no node comes twice, and its end only as its start or not at all
record IsSimple (E : ℕ → ℕ → Type 0) (a : ℕ) (between : List ℕ) (b : ℕ) : Type 0 where
  path : Linked E a between b
  once : IsDistinct (a ∷ between)
  fresh : Contains between b → ⊥

-- the rest of a path from a node that it passes
simple_from : (E : ℕ → ℕ → Type 0) (d : ℕ) (between : List ℕ) (b a : ℕ) → IsSimple E d between b → Contains (d ∷ between) a → (rest : List ℕ) × IsSimple E a rest b
simple_from E d [] b a s h = elim (Contains-cons_cases d [] a h) [
  | inl same ↦ ([], subst (λ (c : ℕ). IsSimple E c [] b) same s)
  | inr r ↦ absurd (Contains-nil a r)
]
simple_from E d (e ∷ es) b a s h = elim (Contains-cons_cases d (e ∷ es) a h) [
  | inl same ↦ (e ∷ es, subst (λ (c : ℕ). IsSimple E c (e ∷ es) b) same s)
  | inr r ↦ simple_from E e es b a (record { path = s.path.1; once = s.once.1; fresh = λ at. s.fresh (Contains-tail e es b at) }) r
]

one_step : (E : ℕ → ℕ → Type 0) (a b : ℕ) → E a b → IsSimple E a [] b
one_step E a b h = record { path = h; once = (Contains-nil a, tt); fresh = Contains-nil b }

simple_path : (E : ℕ → ℕ → Type 0) (a : ℕ) (between : List ℕ) (b : ℕ) → Linked E a between b → (rest : List ℕ) × IsSimple E a rest b
simple_path E a [] b h = ([], one_step E a b h)
simple_path E a (d ∷ between) b h = elim (cases_eq d b) [
  | inl same ↦ ([], one_step E a b (subst (E a) same h.0))
  | inr other ↦
      let r = simple_path E d between b h.1 in
      elim (cases_Contains (d ∷ r.0) a) [
        | inl again ↦ simple_from E d r.0 b a r.1 again
        | inr new ↦ (
          d ∷ r.0,
          record {
            path = (h.0, r.1.path);
            once = (new, r.1.once);
            fresh = λ at. elim (Contains-cons_cases d r.0 b at) [ inl same ↦ other same | inr more ↦ r.1.fresh more ];
          },
        )
      ]
]

pub cycle_of_reach : (E : ℕ → ℕ → Type 0) (a : ℕ) → Reach E a a → IsOnCycle E a
cycle_of_reach E a h = let r = simple_path E a h.0 a h.1 in (r.0, (r.1.path, pairs_of_distinct (a ∷ r.0) r.1.once))

pub reach_of_cycle : (E : ℕ → ℕ → Type 0) (a : ℕ) → IsOnCycle E a → Reach E a a
reach_of_cycle E a h = (h.0, h.1.0)

first_edge : (E : ℕ → ℕ → Type 0) (nodes : List ℕ) → IsWithin E nodes → (a : ℕ) (between : List ℕ) (b : ℕ) → Linked E a between b → Contains nodes a
first_edge E nodes within a [] b h = (within a b h).0
first_edge E nodes within a (x ∷ between) b h = (within a x h.0).0

-- a node that reaches itself leaves no order
pub reach_leaves_none : (E : ℕ → ℕ → Type 0) (nodes : List ℕ) → IsWithin E nodes → (a : ℕ) → Reach E a a → HasNoOrder E nodes
reach_leaves_none E nodes within a h order o =
    let at = place_of E nodes order o a (first_edge E nodes within a h.0 a h.1) in
    let path : Linked E (get_or order at.0 0) h.0 (get_or order at.0 0) = subst (λ (x : ℕ). Linked E x h.0 x) (sym at.2) h.1 in
    let lt = linked_forward E nodes order o within at.0 h.0 at.0 at.1 at.1 path in
    omega (arith, lt)
