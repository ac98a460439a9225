-- The last edges and the three at hand are all edges.
use Rattle.std.proofs.Common.{◌≡◌, ◌≢◌, ◌∙◌, ◌⊎◌, ℕ, ◌+◌, ◌<◌, ◌≤◌, ◌↔◌, List, Bool, true, None, get_or, set, length, subst, arith, inl, inr, ⊎_elim, get_or-set_same, get_or-set_other}
use Rattle.std.proofs.lemmas.Bool.{cases_eq, cases_lt}
use Rattle.std.proofs.lemmas.List.{get_or_past, length-set}
use Rattle.std.proofs.lemmas.Option.{none-some}
use Rattle.full_sort.specs.Bits.{bit_of}
use Rattle.full_sort.specs.Ready.{GainsFreed, IsHeld}
use Rattle.full_sort.specs.Waiting.{is_marked}
use Rattle.full_sort.proofs.Releases.{parts-between}
use Rattle.full_sort.proofs.releasing.release_all.Goals as goal

-- What the two releases gain, where the place of no node is given enough before.
module _ (ready : List ℕ) (H1 H2 : ℕ → Type 0) (marks : List Bool) (n : ℕ) (w0 c0 c1 c2 : List ℕ) (before : (t : ℕ) → t < n → get_or c0 t 0 ≡ get_or w0 t 0) (spare : get_or c1 n 0 ≡ get_or c0 n 0) (some : 1 ≤ get_or c0 n 0) (left : 1 ≤ get_or c2 n 0)
    (long0 : length c0 ≡ n + 1) (long1 : length c1 ≡ n + 1) (fall1 : (t : ℕ) → t < n → get_or c1 t 0 ≤ get_or c0 t 0) (fall2 : (t : ℕ) → t < n → get_or c2 t 0 ≤ get_or c1 t 0)
    (gained1 : GainsFreed (IsHeld ready None) H1 marks c0 c1) (gained2 : GainsFreed H1 H2 marks c1 c2) where
  first : (t : ℕ) → H1 t → (bit_of ready t ≡ 1) ⊎ ((t < n) × (get_or w0 t 0 ≢ 0) × (get_or c2 t 0 ≡ 0) × (is_marked marks t ≡ true))
  first t h = ⊎_elim
      (λ held. ⊎_elim (λ b. inl b) (λ e. absurd (none-some t e)) held)
      (λ f. elim (cases_lt t n) [
        | inl lt ↦ inr (lt, (λ zeros. f.0 (before t lt ∙ zeros)), (let fall = fall2 t lt in let zeros = f.1 in omega (arith, fall, zeros)), f.2)
        | inr ge ↦ elim (cases_eq t n) [
          | inl same ↦ absurd (let zeros : get_or c1 n 0 ≡ 0 = subst (λ (m : ℕ). get_or c1 m 0 ≡ 0) same f.1 in omega (arith, zeros, spare, some))
          | inr other ↦ absurd (f.0 (get_or_past c0 t 0 (omega (arith, ge, other, long0))))
        ]
      ])
      ((gained1 t).0 h)

  pub gained-both : (t : ℕ) → H2 t ↔ ((bit_of ready t ≡ 1) ⊎ ((t < n) × (get_or w0 t 0 ≢ 0) × (get_or c2 t 0 ≡ 0) × (is_marked marks t ≡ true)))
  gained-both t = (
    (λ h. ⊎_elim (first t)
        (λ f. elim (cases_lt t n) [
          | inl lt ↦ inr (lt, (λ zeros. f.0 (let fall = fall1 t lt in let same = before t lt in omega (arith, fall, same, zeros))), f.1, f.2)
          | inr ge ↦ elim (cases_eq t n) [
            | inl same ↦ absurd (let zeros : get_or c2 n 0 ≡ 0 = subst (λ (m : ℕ). get_or c2 m 0 ≡ 0) same f.1 in omega (arith, zeros, left))
            | inr other ↦ absurd (f.0 (get_or_past c1 t 0 (omega (arith, ge, other, long1))))
          ]
        ])
        ((gained2 t).0 h)),
    (λ h. (gained2 t).1 (⊎_elim
        (λ b. inl ((gained1 t).1 (inl (inl b))))
        (λ f. elim (cases_eq (get_or c1 t 0) 0) [
          | inl zeros ↦ inl ((gained1 t).1 (inr ((λ none. f.1 (let same = before t f.0 in omega (arith, same, none))), zeros, f.3)))
          | inr waits ↦ inr (waits, f.2, f.3)
        ])
        h)),
  )

pub release_near-requires-clause-enough : goal.release_near-requires-clause-enough
release_near-requires-clause-enough g c = λ t lt.
    let nodes = c.nodes.ensures.count in
    let parts = parts-between c.args.graph.now.edges c.args.node t in
    let enough = c.requires.enough t lt in
    let less = c.release_rest-kept.ensures.less t lt in
    let kept = get_or-set_other c.args.counts.now c.nodes.result t 4294967295 0 (λ same. omega (arith, same, lt, nodes)) in
    omega (arith, parts, enough, less, kept)

pub returns-clause-less : goal.returns-clause-less
returns-clause-less g c = λ t lt.
    let nodes = c.nodes.ensures.count in
    let parts = parts-between c.args.graph.now.edges c.args.node t in
    let far = c.release_rest-kept.ensures.less t lt in
    let near = c.release_near.ensures.less t lt in
    let kept = get_or-set_other c.args.counts.now c.nodes.result t 4294967295 0 (λ same. omega (arith, same, lt, nodes)) in
    omega (arith, parts, far, near, kept)

pub returns-clause-gained : goal.returns-clause-gained
returns-clause-gained g c =
    let n : ℕ = c.args.graph.now.nodes in
    let nodes = c.nodes.ensures.count in
    let long = c.requires.counts in
    let c0 : List ℕ = set c.args.counts.now c.nodes.result 4294967295 in
    let size = length-set c.args.counts.now c.nodes.result 4294967295 in
    let size1 = c.release_rest-kept.ensures.counts in
    let written : get_or c0 n 0 ≡ 4294967295 = subst (λ (m : ℕ). get_or c0 m 0 ≡ 4294967295) nodes (get_or-set_same c.args.counts.now c.nodes.result 4294967295 0 (omega (arith, nodes, long))) in
    gained-both c.args.ready.now (IsHeld c.release_rest-kept.new.ready c.release_rest-kept.result) (IsHeld c.release_near.new.ready c.release_near.result) c.args.marks.now n c.args.counts.now c0 c.release_rest-kept.new.counts c.release_near.new.counts
    (λ t lt. get_or-set_other c.args.counts.now c.nodes.result t 4294967295 0 (λ same. omega (arith, same, lt, nodes)))
    c.release_rest-kept.ensures.spare (omega (arith, written)) c.release_near.ensures.spare (omega (arith, size, long)) (omega (arith, size, size1, long))
    (λ t lt. let far = c.release_rest-kept.ensures.less t lt in omega (arith, far))
    (λ t lt. let near = c.release_near.ensures.less t lt in omega (arith, near))
    c.release_rest-kept.ensures.gained c.release_near.ensures.gained
