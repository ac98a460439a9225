-- The edges to the nodes of a component tick once each, while it is numbered.
use Rattle.std.proofs.Common.{◌≡◌, ◌≢◌, ◌∙◌, ℕ, ◌+◌, ◌<◌, ◌≤◌, List, length, get_or, take, eqb, arith, sym, ap, subst, inl, inr, ne_eqb}
use Rattle.std.proofs.lemmas.Bool.{cases_eq, eq-eqb, eqb-true}
use Rattle.std.proofs.lemmas.List.{take-take}
use Rattle.std.proofs.lemmas.List.Sums.{sum_by_more}
use Rattle.digraph.specs.Digraph.{edges_in, in_degree}
use Rattle.full_sort.specs.Components.{edges_unnumbered}
use Rattle.full_sort.proofs.Numbering.{Has, IsTaking, number_below, was_free}
use Rattle.full_sort.proofs.OpenSums.{where-list}

-- one node more of the queue
pub queue_more : (es : List (ℕ × ℕ)) (queue queue' : List ℕ) (count done old now new : ℕ) → done < count → count ≤ length queue → take count queue' ≡ take count queue →
    now ≡ old + edges_in es (take done queue) → new ≡ now + in_degree es (get_or queue done 0) → new ≡ old + edges_in es (take (done + 1) queue')
queue_more es queue queue' count done old now new lt few front before step =
    let same : take (done + 1) queue' ≡ take (done + 1) queue =
    sym (take-take (done + 1) count queue' (omega (arith, lt))) ∙ ap (λ (xs : List ℕ). take (done + 1) xs) front ∙ take-take (done + 1) count queue (omega (arith, lt)) in
    let more = sum_by_more (in_degree es) queue done 0 (omega (arith, lt, few)) in
    rw same (omega (arith, more, before, step))

-- the nodes that were taken had no number before
pub sources_ticked : (es : List (ℕ × ℕ)) (E : ℕ → ℕ → Type 0) (root number : ℕ) (old : List ℕ) → number ≢ 0 → ((t : ℕ) → get_or old t 0 ≢ number) → (numbers queue : List ℕ) (count done : ℕ) →
    IsTaking E root number old numbers queue count done → count ≤ done → (n : ℕ) → length numbers ≡ n → edges_in es (take done queue) + edges_unnumbered es n numbers ≤ edges_unnumbered es n old
sources_ticked es E root number old some fresh numbers queue count done i whole n size =
    let at = i.at in
    let same : count ≡ done = omega (arith, at, whole) in
    subst (λ (k : ℕ). edges_in es (take k queue) + edges_unnumbered es n numbers ≤ edges_unnumbered es n old) same
    (where-list (λ t. eqb (get_or old t 0) 0) (λ t. eqb (get_or numbers t 0) 0) (in_degree es) n (take count queue) i.listed.once
    (λ t there.
    let has : Has numbers number t = (i.listed.same t).1 there in
    let below = number_below numbers number t some has in (
      omega (arith, below, size),
      eq-eqb (get_or old t 0) 0 (was_free E root number old some fresh numbers i.given t has).0,
      ne_eqb (get_or numbers t 0) 0 (λ none. some (sym has ∙ none)),
    ))
    (λ t passes. elim (cases_eq (get_or old t 0) 0) [
      | inl none ↦ eq-eqb (get_or old t 0) 0 none
      | inr had ↦ absurd (had (sym (i.given.kept t had) ∙ eqb-true (get_or numbers t 0) 0 passes))
    ]))
