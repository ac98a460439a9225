-- A list has one tally.
use Rattle.std.proofs.Common.{◌≡◌, ◌∙◌, ℕ, ◌≤◌, List, [], ◌∷◌, Bool, refl, sym, ap, arith, All, ⊎_elim}
use Rattle.std.specs.Prelude.{Option, Some, None, unwrap_or}
use Rattle.std.specs.BTreeMap.{is_at}
use Rattle.std.specs.List.Sorted.{IsStrictlySortedBy}
use Rattle.std.specs.Map.{keys_of, values_of, lookup}
use Rattle.std.specs.Ordering.{is_eq, eq_by_cmp, ordering_reverse}
use Rattle.std.specs.declared.cmp.Ordering.{Ordering}
use Rattle.std.specs.declared.cmp.Ordering.TheVariants.{Less, Equal, Greater}
use Rattle.std.proofs.lemmas.Bool.{cases_Bool}
use Rattle.std.proofs.lemmas.Cmp.{tied_itself, eq_by_cmp_equiv}
use Rattle.std.proofs.lemmas.Map.{lookup-none}
use Rattle.std.proofs.lemmas.Map.Entries.{lookup_head, lookup_tail, none_past_head, none_below_head}
use Rattle.std.proofs.lemmas.Map.Keys.{sorted_tail, IsDistinct-from_sorted}
use Rattle.std.proofs.lemmas.Map.Lookups.{CmpEqualImpliesEq}
use Rattle.tally.specs.declared.outcome.Outcome.{Outcome}
use Rattle.tally.specs.Outcomes.{outcome_cmp}
use Rattle.tally.specs.OutcomeLaws.{outcome_cmp_total, outcome_eq_decides, outcome_ties}
use Rattle.tally.specs.Tallies.{IsCounts, IsTally, count_of}
use Rattle.tally.proofs.Growing.{AtLeastOne, count_at, found_counts}

-- outcomes that tie are the same
outcome_cmp_exact : CmpEqualImpliesEq outcome_cmp
outcome_cmp_exact x y e = (outcome_eq_decides x y).0 (outcome_ties x y ∙ ap is_eq e)

told_by : (o o' : Option ℕ) → AtLeastOne o → AtLeastOne o' → unwrap_or o 0 ≡ unwrap_or o' 0 → o ≡ o'
told_by None None h k e = refl
told_by None (Some n) h k e = absurd (omega (arith, k, e))
told_by (Some n) None h k e = absurd (omega (arith, h, e))
told_by (Some n) (Some m) h k e = ap Some e

-- where each count is at least 1, a look-up is told by the count that it gives
told : (test : Outcome → Bool) (ps qs : List (Outcome × ℕ)) → All (λ count. 1 ≤ count) (values_of ps) → All (λ count. 1 ≤ count) (values_of qs)
    → unwrap_or (lookup test ps) 0 ≡ unwrap_or (lookup test qs) 0 → lookup test ps ≡ lookup test qs
told test ps qs h k = told_by (lookup test ps) (lookup test qs) (found_counts test ps h) (found_counts test qs k)

-- the count of the outcome, if it is there
abbrev find : List (Outcome × ℕ) → Outcome → Option ℕ
find pairs outcome = lookup (is_at (outcome_cmp outcome)) pairs

abbrev IsRising : List (Outcome × ℕ) → Type 0
IsRising pairs = IsStrictlySortedBy outcome_cmp (keys_of pairs)

at_head : (p : Outcome × ℕ) (ps : List (Outcome × ℕ)) → find (p ∷ ps) p.0 ≡ Some p.1
at_head p ps = lookup_head (is_at (outcome_cmp p.0)) p ps (ap is_eq (tied_itself outcome_cmp_total p.0))

not_None : (n : ℕ) → Some n ≡ None → ⊥
not_None n e = cc

module _ (p q : Outcome × ℕ) (ps qs : List (Outcome × ℕ)) (s : IsRising (p ∷ ps)) (t : IsRising (q ∷ qs)) (h : (o : Outcome) → find (p ∷ ps) o ≡ find (q ∷ qs) o) where
  heads_tie : (r : Ordering) → outcome_cmp p.0 q.0 ≡ r → outcome_cmp p.0 q.0 ≡ Equal
  heads_tie Less e = absurd (not_None p.1 (sym (at_head p ps) ∙ h p.0 ∙ lookup-none _ (q ∷ qs) (none_below_head outcome_cmp_total p.0 q qs t e)))
  heads_tie Equal e = e
  heads_tie Greater e = absurd (not_None q.1 (sym (at_head q qs) ∙ sym (h q.0) ∙ lookup-none _ (p ∷ ps) (none_below_head outcome_cmp_total q.0 p ps s (outcome_cmp_total.antisymm q.0 p.0 ∙ ap ordering_reverse e))))

  same_outcome : p.0 ≡ q.0
  same_outcome = outcome_cmp_exact p.0 q.0 (heads_tie (outcome_cmp p.0 q.0) refl)

  same_count : p.1 ≡ q.1
  same_count = ap (λ (o : Option ℕ). unwrap_or o p.1) (sym (at_head p ps) ∙ h p.0 ∙ ap (find (q ∷ qs)) same_outcome ∙ at_head q qs)

  same_behind : (o : Outcome) → find ps o ≡ find qs o
  same_behind o =
      let laws = eq_by_cmp_equiv outcome_cmp_total in
      let e : eq_by_cmp outcome_cmp o q.0 ≡ eq_by_cmp outcome_cmp o p.0 = ap (λ (x : Outcome). eq_by_cmp outcome_cmp o x) (sym same_outcome) in
      ⊎_elim
      (λ b. lookup-none _ ps (none_past_head laws o p ps (IsDistinct-from_sorted outcome_cmp _ s) b) ∙ sym (lookup-none _ qs (none_past_head laws o q qs (IsDistinct-from_sorted outcome_cmp _ t) (e ∙ b))))
      (λ b. sym (lookup_tail (is_at (outcome_cmp o)) p ps b) ∙ h o ∙ lookup_tail (is_at (outcome_cmp o)) q qs (e ∙ b))
      (cases_Bool (eq_by_cmp outcome_cmp o p.0))

same_pairs : (ps qs : List (Outcome × ℕ)) → IsRising ps → IsRising qs → ((o : Outcome) → find ps o ≡ find qs o) → ps ≡ qs
same_pairs [] [] s t h = refl
same_pairs [] (q ∷ qs) s t h = absurd (not_None q.1 (sym (h q.0 ∙ at_head q qs)))
same_pairs (p ∷ ps) [] s t h = absurd (not_None p.1 (sym (at_head p ps) ∙ h p.0))
same_pairs (p ∷ ps) (q ∷ qs) s t h =
    let rest = same_pairs ps qs (sorted_tail outcome_cmp p.0 (keys_of ps) s) (sorted_tail outcome_cmp q.0 (keys_of qs) t) (same_behind p q ps qs s t h) in
    λ i. (same_outcome p q ps qs s t h i, same_count p q ps qs s t h i) ∷ rest i

-- rising pairs that give the same count to each outcome are the same
pub one_from_counts : (ps qs : List (Outcome × ℕ)) → IsCounts ps → IsCounts qs → ((outcome : Outcome) → count_of ps outcome ≡ count_of qs outcome) → ps ≡ qs
one_from_counts ps qs h k e =
    same_pairs ps qs h.rising k.rising (λ o. told (is_at (outcome_cmp o)) ps qs h.positive k.positive (sym (count_at ps o) ∙ e o ∙ count_at qs o))

pub one_tally : (outcomes : List Outcome) (ps qs : List (Outcome × ℕ)) → IsTally outcomes ps → IsTally outcomes qs → ps ≡ qs
one_tally outcomes ps qs h k = one_from_counts ps qs h.counts k.counts (λ q. h.counted q ∙ sym (k.counted q))
