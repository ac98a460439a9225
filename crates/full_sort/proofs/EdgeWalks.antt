-- A walk over the edges that have a node as their source or as their target, the last added first: what holds of those behind it.
use Rattle.std.proofs.Common.{◌≡◌, ◌≢◌, ◌∙◌, ℕ, ◌<◌, ◌≤◌, List, Option, Some, None, length, get_or, arith, refl, sym, ap, subst, inl, inr}
use Rattle.std.proofs.lemmas.Bool.{cases_eq, cases_lt}
use Rattle.std.proofs.lemmas.List.{get_or_default}
use Rattle.digraph.specs.Digraph.{HasEdge, IsLastBelow, source_of, target_of}
use Rattle.full_sort.proofs.Walk.{walk_start}

-- the walk stands at an edge of the node, or at its end
abbrev pub StandsAt : (ℕ → ℕ) → ℕ → ℕ → Option ℕ → Type 0
StandsAt key_of node bound None = Unit {0}
StandsAt key_of node bound (Some e) = (e < bound) × (key_of e ≡ node)

-- the fact holds of each edge of the node that is behind the walk
pub record IsWalkOver (key_of : ℕ → ℕ) (node bound : ℕ) (P : ℕ → Type 0) (next : Option ℕ) : Type 0 where
  pub at : StandsAt key_of node bound next
  pub behind : (e : ℕ) → walk_start next ≤ e → e < bound → key_of e ≡ node → P e

module _ (key_of : ℕ → ℕ) (node bound : ℕ) where
  -- no edge of the node stands between a number and the last one below it
  none_between : (start : ℕ) (r : Option ℕ) → IsLastBelow key_of node start r → (e : ℕ) → walk_start r ≤ e → e < start → key_of e ≢ node
  none_between start None last e low high = last e low high
  none_between start (Some k) last e low high = last.2 e low high

  stands_below : (start : ℕ) (r : Option ℕ) → start ≤ bound → IsLastBelow key_of node start r → StandsAt key_of node bound r
  stands_below start None few last = tt
  stands_below start (Some k) few last = let below = last.0 in (omega (arith, below, few), last.1)

  -- a walk from a number on, where those from there on have the fact
  pub walk_from : (P : ℕ → Type 0) (start : ℕ) (r : Option ℕ) → start ≤ bound → IsLastBelow key_of node start r → ((e : ℕ) → start ≤ e → e < bound → key_of e ≡ node → P e) →
      IsWalkOver key_of node bound P r
  walk_from P start r few last before = record {
    at = stands_below start r few last;
    behind = λ e low high key. elim (cases_lt e start) [ inl lower ↦ absurd (none_between start r last e low lower key) | inr past ↦ before e past high key ];
  }

  pub walk_begin : (P : ℕ → Type 0) (r : Option ℕ) → IsLastBelow key_of node bound r → IsWalkOver key_of node bound P r
  walk_begin P r last = walk_from P bound r (omega arith) last (λ e low high key. absurd (omega (arith, low, high)))

  -- one edge more is behind it
  pub walk_on : (P : ℕ → Type 0) (edge : ℕ) (next : Option ℕ) (r : Option ℕ) → next ≡ Some edge → IsLastBelow key_of (key_of edge) edge r → P edge → IsWalkOver key_of node bound P next →
      IsWalkOver key_of node bound P r
  walk_on P edge next r is last here w =
      let now : IsWalkOver key_of node bound P (Some edge) = subst (IsWalkOver key_of node bound P) is w in
      let below = now.at.0 in
      walk_from P edge r (omega (arith, below)) (subst (λ (n : ℕ). IsLastBelow key_of n edge r) now.at.1 last) (λ e low high key. elim (cases_eq e edge) [
        | inl same ↦ subst P (sym same) here
        | inr other ↦ now.behind e (omega (arith, low, other)) high key
      ])

  -- the fact may grow on the way
  pub walk_kept : (P Q : ℕ → Type 0) (next : Option ℕ) → ((e : ℕ) → P e → Q e) → IsWalkOver key_of node bound P next → IsWalkOver key_of node bound Q next
  walk_kept P Q next more w = record { at = w.at; behind = λ e low high key. more e (w.behind e low high key) }

  pub stands_here : (P : ℕ → Type 0) (edge : ℕ) (next : Option ℕ) → next ≡ Some edge → IsWalkOver key_of node bound P next → (edge < bound) × (key_of edge ≡ node)
  stands_here P edge next is w = subst (StandsAt key_of node bound) is w.at

  -- at the end it holds of all
  pub walk_all : (P : ℕ → Type 0) (next : Option ℕ) → ((e : ℕ) → next ≡ Some e → ⊥) → IsWalkOver key_of node bound P next → (e : ℕ) → e < bound → key_of e ≡ node → P e
  walk_all P None end w e high key = w.behind e (omega arith) high key
  walk_all P (Some k) end w e high key = absurd (end k refl)

-- an edge, by its number
pub edge_at : (es : List (ℕ × ℕ)) (edge : ℕ) → edge < length es → HasEdge es (source_of es edge) (target_of es edge)
edge_at es edge lt = (edge, lt, get_or_default es edge (get_or es edge (0, 0)) (0, 0) lt)

pub number_of_edge : (es : List (ℕ × ℕ)) (node t : ℕ) → HasEdge es node t → (e : ℕ) × (e < length es) × (source_of es e ≡ node) × (target_of es e ≡ t)
number_of_edge es node t h =
    let same : get_or es h.0 (0, 0) ≡ (node, t) = get_or_default es h.0 (0, 0) (node, t) h.1 ∙ h.2 in
    (h.0, h.1, ap (λ (p : ℕ × ℕ). p.0) same, ap (λ (p : ℕ × ℕ). p.1) same)
