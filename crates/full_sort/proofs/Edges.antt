-- How many edges there are, and whether there is one.
use Rattle.std.proofs.Common.{◌≡◌, ◌∙◌, ℕ, ◌<◌, ◌≤◌, List, All, length, get_or, Contains, false, eqb, ◌&&◌, refl, sym, ap, subst, arith}
use Rattle.std.specs.Prelude.{sum_by}
use Rattle.std.proofs.lemmas.List.Sums.{get_or-le-sum_by}
use Rattle.std.proofs.lemmas.Bool.{eq-eqb, eqb-true, and_parts, false_from_ne_true}
use Rattle.orders.specs.Orders.{nodes_below}
use Rattle.orders.proofs.Below.{once-below, has-below}
use Rattle.digraph.specs.Digraph.{HasEdge, in_degree, out_degree}
use Rattle.full_sort.specs.Waiting.{count_between, count_into}
use Rattle.full_sort.proofs.Sums.{IsOnce, sum-zero, sum-count-le, sum-count-all, one_if}

-- a count of 0 says that there is no edge, and the other way round
pub no-edge : (es : List (ℕ × ℕ)) (a b : ℕ) → count_between es a b ≡ 0 → HasEdge es a b → ⊥
no-edge es a b zeros edge =
    let le = get_or-le-sum_by (λ x. one_if (eqb x.0 a && eqb x.1 b)) es edge.0 (a, b) edge.1 in
    let at : one_if (eqb (get_or es edge.0 (a, b)).0 a && eqb (get_or es edge.0 (a, b)).1 b) ≡ one_if (eqb a a && eqb b b) = ap (λ (x : ℕ × ℕ). one_if (eqb x.0 a && eqb x.1 b)) edge.2 in
    let one : one_if (eqb a a && eqb b b) ≡ 1 = rw (eq-eqb a a refl, eq-eqb b b refl) refl in
    omega (arith, le, at, one, zeros)

pub count-no-edge : (es : List (ℕ × ℕ)) (a b : ℕ) → (HasEdge es a b → ⊥) → count_between es a b ≡ 0
count-no-edge es a b none =
    sum-zero (λ x. one_if (eqb x.0 a && eqb x.1 b)) es (λ x h.
    let fails : (eqb x.0 a && eqb x.1 b) ≡ false = false_from_ne_true (eqb x.0 a && eqb x.1 b) (λ passes.
    let parts = and_parts (eqb x.0 a) (eqb x.1 b) passes in
    let same : x ≡ (a, b) = ap (λ (m : ℕ). (m, x.1)) (eqb-true x.0 a parts.0) ∙ ap (λ (m : ℕ). (a, m)) (eqb-true x.1 b parts.1) in
    none (subst (Contains es) same h)) in
    rw fails refl)

-- no more edges lead from distinct nodes to a node than there are
pub into-le : (es : List (ℕ × ℕ)) (nodes : List ℕ) (t : ℕ) → IsOnce nodes → count_into es nodes t ≤ length es
into-le es nodes t once = sum-count-le (λ a x. eqb x.0 a && eqb x.1 t) (λ x. x.0) (λ a x passes. sym (eqb-true x.0 a (and_parts (eqb x.0 a) (eqb x.1 t) passes).0)) nodes once es

-- no more edges lead from distinct nodes, and to them, than there are
pub degrees-le : (es : List (ℕ × ℕ)) (nodes : List ℕ) → IsOnce nodes → sum_by (out_degree es) nodes ≤ length es
degrees-le es nodes once = sum-count-le (λ a x. eqb x.0 a) (λ x. x.0) (λ a x passes. sym (eqb-true x.0 a passes)) nodes once es

pub degrees_in-le : (es : List (ℕ × ℕ)) (nodes : List ℕ) → IsOnce nodes → sum_by (in_degree es) nodes ≤ length es
degrees_in-le es nodes once = sum-count-le (λ a x. eqb x.1 a) (λ x. x.1) (λ a x passes. sym (eqb-true x.1 a passes)) nodes once es

-- all edges lead from the nodes of the graph
pub degrees-all : (es : List (ℕ × ℕ)) (n : ℕ) → All (λ e. (e.0 < n) × (e.1 < n)) es → sum_by (out_degree es) (nodes_below n) ≡ length es
degrees-all es n inside = sum-count-all (λ a x. eqb x.0 a) (λ x. x.0) (λ a x passes. sym (eqb-true x.0 a passes)) (λ x. eq-eqb x.0 x.0 refl) (nodes_below n) (once-below n) es (λ i d lt. has-below n _ (inside i d lt).0)
