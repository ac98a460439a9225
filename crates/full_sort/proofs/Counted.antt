-- The edges to each node, counted in one pass over all edges.
use Rattle.std.proofs.Common.{◌≡◌, ◌∙◌, ℕ, ◌+◌, ◌<◌, ◌^◌, List, [], ◌∷◌, All, length, get_or, set, take, Contains, false, eqb, ◌&&◌, refl, sym, subst, arith, inl, inr, get_or-set_same, get_or-set_other, ne_eqb}
use Rattle.std.specs.Prelude.{sum_by}
use Rattle.std.proofs.lemmas.Bool.{cases_Bool, cases_eq, eq-eqb, eqb-true, and_parts, false≢true, false_from_ne_true}
use Rattle.std.proofs.lemmas.List.{length-take-le}
use Rattle.std.proofs.lemmas.List.Elements.{All-head, All-tail}
use Rattle.std.proofs.lemmas.List.Sums.{sum_by-cons, count_by_more_yes, count_by_more_no, count_by-le-length}
use Rattle.digraph.specs.Digraph.{in_degree, target_of}
use Rattle.full_sort.specs.Waiting.{count_into}
use Rattle.full_sort.proofs.Sums.{IsOnce, sum-zero, sum-count-cons, one-passes, term-le-sum, one_if}

-- an edge is counted once, at its source
edge-once : (x : ℕ × ℕ) (t : ℕ) (nodes : List ℕ) → IsOnce nodes → Contains nodes x.0 → sum_by (λ a. one_if (eqb x.0 a && eqb x.1 t)) nodes ≡ one_if (eqb x.1 t)
edge-once x t nodes once h = elim (cases_Bool (eqb x.1 t)) [
  | inl same ↦
      let most = one-passes (λ a. eqb x.0 a && eqb x.1 t) x.0 (λ a passes. sym (eqb-true x.0 a (and_parts (eqb x.0 a) (eqb x.1 t) passes).0)) nodes once in
      let least = term-le-sum (λ a. one_if (eqb x.0 a && eqb x.1 t)) nodes x.0 h in
      let one : one_if (eqb x.0 x.0 && eqb x.1 t) ≡ 1 = rw (eq-eqb x.0 x.0 refl, same) refl in
      let right : one_if (eqb x.1 t) ≡ 1 = rw same refl in
      omega (arith, most, least, one, right)
  | inr differ ↦
      let none = sum-zero (λ a. one_if (eqb x.0 a && eqb x.1 t)) nodes (λ a c.
      let fails : (eqb x.0 a && eqb x.1 t) ≡ false = false_from_ne_true (eqb x.0 a && eqb x.1 t) (λ passes. false≢true (sym differ ∙ (and_parts (eqb x.0 a) (eqb x.1 t) passes).1)) in
      rw fails refl) in
      let right : one_if (eqb x.1 t) ≡ 0 = rw differ refl in
      omega (arith, none, right)
]

-- the edges from all nodes to a node are those to it
pub into-degree : (es : List (ℕ × ℕ)) (nodes : List ℕ) (t : ℕ) → IsOnce nodes → All (λ x. Contains nodes x.0) es → count_into es nodes t ≡ in_degree es t
into-degree [] nodes t once h = sum-zero (λ a. 0) nodes (λ a c. refl)
into-degree (x ∷ es) nodes t once h =
    let parts = sum-count-cons (λ a y. eqb y.0 a && eqb y.1 t) x es nodes in
    let one = edge-once x t nodes once (All-head (λ y. Contains nodes y.0) x es h) in
    let rest = into-degree es nodes t once (All-tail (λ y. Contains nodes y.0) x es h) in
    let right = sum_by-cons (λ y. one_if (eqb y.1 t)) x es in
    omega (arith, parts, one, rest, right)

-- one edge more is counted
module _ (es : List (ℕ × ℕ)) (ws : List ℕ) (k target : ℕ) (lt : k < length es) (at : target ≡ target_of es k) (before : (t : ℕ) → get_or ws t 0 ≡ in_degree (take k es) t) where
  here-more : in_degree (take (k + 1) es) target ≡ in_degree (take k es) target + 1
  here-more = count_by_more_yes (λ e. eqb e.1 target) es k (0, 0) lt (eq-eqb (target_of es k) target (sym at))

  pub counted-room : length es < 2 ^ 32 → get_or ws target 0 + 1 < 2 ^ 32
  counted-room few =
      let more = here-more in
      let so_far = before target in
      let most = count_by-le-length (λ e. eqb e.1 target) (take (k + 1) es) in
      let size = length-take-le (k + 1) es (omega (arith, lt)) in
      omega (arith, more, so_far, most, size, lt, few)

  pub counted-more : target < length ws → (t : ℕ) → get_or (set ws target (get_or ws target 0 + 1)) t 0 ≡ in_degree (take (k + 1) es) t
  counted-more inside t = elim (cases_eq t target) [
    | inl same ↦
        subst (λ (m : ℕ). get_or (set ws target (get_or ws target 0 + 1)) m 0 ≡ in_degree (take (k + 1) es) m) (sym same)
        (let written = get_or-set_same ws target (get_or ws target 0 + 1) 0 inside in
        let more = here-more in
        let so_far = before target in
        omega (arith, written, more, so_far))
    | inr other ↦
        let kept = get_or-set_other ws target t (get_or ws target 0 + 1) 0 other in
        let more = count_by_more_no (λ e. eqb e.1 t) es k (0, 0) lt (ne_eqb (target_of es k) t (λ e. other (sym (at ∙ e)))) in
        let so_far = before t in
        omega (arith, kept, more, so_far)
  ]
