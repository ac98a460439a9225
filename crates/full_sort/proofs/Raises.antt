-- What the raising of a node's targets leaves.
use Rattle.std.proofs.Common.{◌≡◌, ◌∙◌, ℕ, ◌+◌, ◌<◌, ◌≤◌, ◌^◌, List, Bool, cond, eqb, length, get_or, set, take, sym, ap, subst, arith, inl, inr, get_or-set_same, get_or-set_other, ne_eqb}
use Rattle.std.proofs.lemmas.Bool.{cases_eq, eq-eqb}
use Rattle.std.proofs.lemmas.List.{take_all}
use Rattle.std.proofs.lemmas.List.Sums.{sum_by-take-drop, count_by_more_yes, count_by_more_no}
use Rattle.digraph.proofs.AtHand.{length-targets}
use Rattle.digraph.specs.Digraph.{out_degree, targets_from}
use Rattle.full_sort.specs.Ready.{times_in}
use Rattle.full_sort.specs.Waiting.{count_between}
use Rattle.full_sort.proofs.Releases.{near-count, targets-between}

abbrev one_if : Bool → ℕ
one_if b = cond b 1 0

-- where at most three edges lead from the node, all targets are at hand
pub near-between : (es : List (ℕ × ℕ)) (node n : ℕ) (N : List ℕ) → out_degree es node ≤ 3 → length N ≡ 3 → ((k : ℕ) → k < 3 → get_or N k 0 ≡ get_or (targets_from es node) k n) → (t : ℕ) → t < n →
    times_in N t ≡ count_between es node t
near-between es node n N few long at t lt =
    let size = length-targets es node in
    let near = near-count (targets_from es node) N n long at t lt in
    let all = ap (λ (xs : List ℕ). times_in xs t) (take_all 3 (targets_from es node) (omega (arith, size, few))) in
    let between = targets-between es node t in
    omega (arith, near, all, between)

-- the place of no node counts the places that are left
pub spare-raised : (ws : List ℕ) (i x n : ℕ) → length ws ≡ n + 1 → x ≤ n → get_or ws n 0 ≤ i → get_or (set ws x (get_or ws x 0 + 1)) n 0 ≤ i + 1
spare-raised ws i x n long inside spare = elim (cases_eq n x) [
  | inl same ↦
      (let written : get_or (set ws x (get_or ws x 0 + 1)) n 0 ≡ get_or ws x 0 + 1 = ap (λ (m : ℕ). get_or (set ws x (get_or ws x 0 + 1)) m 0) same ∙ get_or-set_same ws x (get_or ws x 0 + 1) 0 (omega (arith, inside, long)) in
      let before : get_or ws n 0 ≡ get_or ws x 0 = ap (λ (m : ℕ). get_or ws m 0) same in
      omega (arith, written, before, spare))
  | inr other ↦ (let kept = get_or-set_other ws x n (get_or ws x 0 + 1) 0 other in omega (arith, kept, spare))
]

-- one target more of a list is raised
module _ (N : List ℕ) (i x : ℕ) (lt : i < length N) (at : x ≡ get_or N i 0) (n : ℕ) (inside : x ≤ n) (w0 ws : List ℕ) (long : length ws ≡ n + 1)
    (counted : (t : ℕ) → t < n → get_or ws t 0 ≡ get_or w0 t 0 + times_in (take i N) t) where
  here-more : times_in (take (i + 1) N) x ≡ times_in (take i N) x + 1
  here-more = count_by_more_yes (λ y. eqb y x) N i 0 lt (eq-eqb (get_or N i 0) x (sym at))

  pub list-room : i < 3 → get_or ws n 0 ≤ i → ((t : ℕ) → t < n → get_or w0 t 0 + times_in N t < 2 ^ 32) → get_or ws x 0 + 1 < 2 ^ 32
  list-room low spare room = elim (cases_eq x n) [
    | inl same ↦ (let here : get_or ws x 0 ≡ get_or ws n 0 = ap (λ (m : ℕ). get_or ws m 0) same in omega (arith, here, spare, low))
    | inr other ↦
        let so_far = counted x (omega (arith, inside, other)) in
        let most = room x (omega (arith, inside, other)) in
        let more = here-more in
        let parts = sum_by-take-drop (λ y. one_if (eqb y x)) N (i + 1) in
        omega (arith, so_far, most, more, parts)
  ]

  pub list-raised : (t : ℕ) → t < n → get_or (set ws x (get_or ws x 0 + 1)) t 0 ≡ get_or w0 t 0 + times_in (take (i + 1) N) t
  list-raised t below = elim (cases_eq t x) [
    | inl same ↦
        subst (λ (m : ℕ). get_or (set ws x (get_or ws x 0 + 1)) m 0 ≡ get_or w0 m 0 + times_in (take (i + 1) N) m) (sym same)
        (let written = get_or-set_same ws x (get_or ws x 0 + 1) 0 (omega (arith, inside, long)) in
        let so_far = counted x (omega (arith, below, same)) in
        let more = here-more in
        omega (arith, written, so_far, more))
    | inr other ↦
        let kept = get_or-set_other ws x t (get_or ws x 0 + 1) 0 other in
        let so_far = counted t below in
        let more = count_by_more_no (λ y. eqb y t) N i 0 lt (ne_eqb (get_or N i 0) t (λ same. other (sym (at ∙ same)))) in
        omega (arith, kept, so_far, more)
  ]
