-- What one place less of an outcome does to a tally.
use Rattle.std.proofs.Common.{◌≡◌, ◌≢◌, ◌∙◌, ℕ, ◌+◌, ◌-◌, ◌≤◌, List, [], ◌∷◌, ◌++◌, length, Bool, true, false, cond, eqb, eq-eqb, ne_eqb, refl, sym, ap, subst, arith}
use Rattle.std.specs.Prelude.{Option, Some, None, unwrap_or}
use Rattle.std.specs.BTreeMap.{insert_entry, is_at}
use Rattle.std.specs.List.{AllByRecursion}
use Rattle.std.specs.List.Sorted.{IsStrictlySortedBy}
use Rattle.std.specs.Map.{keys_of, lookup, remove_entry, set_value}
use Rattle.std.specs.declared.cmp.Ordering.{Ordering}
use Rattle.std.specs.declared.cmp.Ordering.TheVariants.{Less}
use Rattle.std.proofs.lemmas.Bool.{eqb-true, eqb-false}
use Rattle.std.proofs.lemmas.Cmp.{eq_by_cmp_equiv}
use Rattle.std.proofs.lemmas.Iterator.Adapters.{option_map_id}
use Rattle.std.proofs.lemmas.List.Elements.{All-nil}
use Rattle.std.proofs.lemmas.Map.{lookup-remove_entry}
use Rattle.std.proofs.lemmas.Map.Entries.{sum_by-insert_entry, sum_by-remove_entry}
use Rattle.std.proofs.lemmas.Map.Keys.{IsDistinct-from_sorted}
use Rattle.std.proofs.lemmas.Map.Views.{All-map-remove_entry, All-values-insert_entry}
use Rattle.tally.specs.declared.outcome.Outcome.{Outcome}
use Rattle.tally.specs.Outcomes.{outcome_eq, outcome_cmp}
use Rattle.tally.specs.OutcomeLaws.{outcome_cmp_total, outcome_eq_equivalence, outcome_eq_decides, outcome_ties}
use Rattle.tally.specs.Tallies.{IsCounts, IsTally, count_of, total_of, with_each, with_one_less}
use Rattle.tally.proofs.Each.{IsCounts-each, count_of-each, total-each}
use Rattle.tally.proofs.Growing.{count_at, occurrences-push}
use Rattle.tally.proofs.OneTally.{one_from_counts}
use Rattle.tally.proofs.Putting.{lookup-insert_entry, set_value-there, sorted-insert_entry}

module _ {K X : Type 0} (R : K → K → Ordering) (test : K → Bool) where
  all-without : (P : K → Type 0) (es : List (K × X)) → AllByRecursion P (keys_of es) → AllByRecursion P (keys_of (remove_entry test es))
  all-without P [] h = h
  all-without P (e ∷ es) h = by (test e.0) (all-without P es h.1)
    where
      by : (b : Bool) → AllByRecursion P (keys_of (remove_entry test es)) → AllByRecursion P (keys_of (cond b es (e ∷ remove_entry test es)))
      by true rest = h.1
      by false rest = (h.0, rest)

  -- the keys still rise without one
  sorted-remove_entry : (es : List (K × X)) → IsStrictlySortedBy R (keys_of es) → IsStrictlySortedBy R (keys_of (remove_entry test es))
  unfolding IsStrictlySortedBy
  sorted-remove_entry [] s = s
  sorted-remove_entry (e ∷ es) s = by (test e.0) (sorted-remove_entry es s.1)
    where
      by : (b : Bool) → IsStrictlySortedBy R (keys_of (remove_entry test es)) → IsStrictlySortedBy R (keys_of (cond b es (e ∷ remove_entry test es)))
      by true rest = s.1
      by false rest = (all-without (λ y. R e.0 y ≡ Less) es s.0, rest)

-- the test of one outcome, by equality and by the order
same_test : (outcome : Outcome) → outcome_eq outcome ≡ is_at (outcome_cmp outcome)
same_test outcome = λ i other. outcome_ties outcome other i

turned : (outcome other : Outcome) → is_at (outcome_cmp outcome) other ≡ outcome_eq other outcome
turned outcome other = sym (outcome_ties outcome other) ∙ outcome_eq_equivalence.symm outcome other

module _ (old : List (Outcome × ℕ)) (outcome : Outcome) (h : IsCounts old) where
  -- the outcome with another count
  abbrev put : ℕ → List (Outcome × ℕ)
  put n = insert_entry outcome_cmp old outcome n

  IsCounts-put : (n : ℕ) → 1 ≤ n → IsCounts (put n)
  IsCounts-put n some = record {
    rising = sorted-insert_entry outcome_cmp_total outcome n old h.rising;
    positive = All-values-insert_entry outcome_cmp outcome n (λ count. 1 ≤ count) old h.positive some;
  }

  count_of-put : (n : ℕ) (other : Outcome) → count_of (put n) other ≡ cond (outcome_eq other outcome) n (count_of old other)
  count_of-put n other =
      count_at (put n) other ∙ ap (λ (found : Option ℕ). unwrap_or found 0) (lookup-insert_entry outcome_cmp_total outcome n other old)
      ∙ ap (λ (b : Bool). unwrap_or (cond b (Some n) (lookup (is_at (outcome_cmp other)) old)) 0) (turned outcome other) ∙ by (outcome_eq other outcome)
    where
      by : (b : Bool) → unwrap_or (cond b (Some n) (lookup (is_at (outcome_cmp other)) old)) 0 ≡ cond b n (count_of old other)
      by true = refl
      by false = sym (count_at old other)

  -- without the outcome
  abbrev without : List (Outcome × ℕ)
  without = remove_entry (is_at (outcome_cmp outcome)) old

  IsCounts-without : IsCounts without
  IsCounts-without = record {
    rising = sorted-remove_entry outcome_cmp (is_at (outcome_cmp outcome)) old h.rising;
    positive = All-map-remove_entry (is_at (outcome_cmp outcome)) (λ (pair : Outcome × ℕ). pair.1) (λ count. 1 ≤ count) old h.positive;
  }

  count_of-without : (other : Outcome) → count_of without other ≡ cond (outcome_eq other outcome) 0 (count_of old other)
  count_of-without other =
      let laws = eq_by_cmp_equiv outcome_cmp_total in
      count_at without other
      ∙ ap (λ (found : Option ℕ). unwrap_or found 0) (lookup-remove_entry laws (is_at (outcome_cmp outcome)) (λ x y e. laws.congr outcome x y e) other old (IsDistinct-from_sorted outcome_cmp _ h.rising))
      ∙ ap (λ (b : Bool). unwrap_or (cond b None (lookup (is_at (outcome_cmp other)) old)) 0) (turned outcome other) ∙ by (outcome_eq other outcome)
    where
      by : (b : Bool) → unwrap_or (cond b None (lookup (is_at (outcome_cmp other)) old)) 0 ≡ cond b 0 (count_of old other)
      by true = refl
      by false = sym (count_at old other)

  -- the count of the outcome itself
  own_count : (other : Outcome) → outcome_eq other outcome ≡ true → count_of old other ≡ count_of old outcome
  own_count other e = ap (count_of old) ((outcome_eq_decides other outcome).0 e)

  total-put : (n : ℕ) → total_of (put n) + count_of old outcome ≡ total_of old + n
  total-put n =
      let found : Option ℕ = lookup (is_at (outcome_cmp outcome)) old in
      let sums = sum_by-insert_entry (λ (n : ℕ). n) outcome_cmp_total old outcome n h.rising in
      let same = ap (λ (o : Option ℕ). unwrap_or o 0) (option_map_id found) in
      omega (arith, sums, same, count_at old outcome)

  total-without : total_of without + count_of old outcome ≡ total_of old
  total-without =
      let found : Option ℕ = lookup (is_at (outcome_cmp outcome)) old in
      let sums = sum_by-remove_entry (λ (n : ℕ). n) (is_at (outcome_cmp outcome)) old in
      let same = ap (λ (o : Option ℕ). unwrap_or o 0) (option_map_id found) in
      omega (arith, sums, same, count_at old outcome)

  -- what one place less does, where there is one
  pub record IsOneLess (new : List (Outcome × ℕ)) : Type 0 where
    pub counts : IsCounts new
    pub total : total_of new + 1 ≡ total_of old
    pub count : (other : Outcome) → count_of new other + cond (outcome_eq other outcome) 1 0 ≡ count_of old other

  one_less-without : count_of old outcome ≡ 1 → IsOneLess without
  one_less-without one = record {
    counts = IsCounts-without;
    total = (let sums = total-without in omega (arith, sums, one));
    count = λ other. ap (λ n. n + cond (outcome_eq other outcome) 1 0) (count_of-without other) ∙ by other (outcome_eq other outcome) refl;
  }
    where
      by : (other : Outcome) (b : Bool) → outcome_eq other outcome ≡ b → cond b 0 (count_of old other) + cond b 1 0 ≡ count_of old other
      by other true e = sym (own_count other e ∙ one)
      by other false e = omega arith

  one_less-put : 1 ≤ count_of old outcome → count_of old outcome ≢ 1 → IsOneLess (put (count_of old outcome - 1))
  one_less-put some more = record {
    counts = IsCounts-put (count_of old outcome - 1) (omega (arith, some, more));
    total = (let sums = total-put (count_of old outcome - 1) in omega (arith, sums, some));
    count = λ other. ap (λ n. n + cond (outcome_eq other outcome) 1 0) (count_of-put (count_of old outcome - 1) other) ∙ by other (outcome_eq other outcome) refl;
  }
    where
      by : (other : Outcome) (b : Bool) → outcome_eq other outcome ≡ b → cond b (count_of old outcome - 1) (count_of old other) + cond b 1 0 ≡ count_of old other
      by other true e = let own = own_count other e in omega (arith, own, some)
      by other false e = omega arith

  pub one_less : (new : List (Outcome × ℕ)) → 1 ≤ count_of old outcome → new ≡ with_one_less old outcome → IsOneLess new
  one_less new some e = subst IsOneLess (sym e) (by (eqb (count_of old outcome) 1) refl)
    where
      by : (b : Bool) → eqb (count_of old outcome) 1 ≡ b → IsOneLess (cond b (remove_entry (outcome_eq outcome) old) (put (count_of old outcome - 1)))
      by true is = subst (λ (test : Outcome → Bool). IsOneLess (remove_entry test old)) (sym (same_test outcome)) (one_less-without (eqb-true (count_of old outcome) 1 is))
      by false is = one_less-put some (eqb-false (count_of old outcome) 1 is)

  -- what the code does, by the count that it found
  pub removed : (new : List (Outcome × ℕ)) → count_of old outcome ≡ 1 → new ≡ without → new ≡ with_one_less old outcome
  removed new one e =
      e ∙ ap (λ (test : Outcome → Bool). remove_entry test old) (sym (same_test outcome))
      ∙ ap (λ (b : Bool). cond b (remove_entry (outcome_eq outcome) old) (put (count_of old outcome - 1))) (sym (eq-eqb (count_of old outcome) 1 one))

  pub lowered : (new : List (Outcome × ℕ)) (count : ℕ) → count_of old outcome ≢ 1 → Some count ≡ lookup (is_at (outcome_cmp outcome)) old
      → new ≡ set_value (is_at (outcome_cmp outcome)) old (count - 1) → new ≡ with_one_less old outcome
  lowered new count more found e =
      let same : count ≡ count_of old outcome = ap (λ (o : Option ℕ). unwrap_or o 0) found ∙ sym (count_at old outcome) in
      e ∙ set_value-there outcome_cmp_total outcome (count - 1) old count h.rising (sym found) ∙ ap (λ n. put (n - 1)) same
      ∙ ap (λ (b : Bool). cond b (remove_entry (outcome_eq outcome) old) (put (count_of old outcome - 1))) (sym (ne_eqb (count_of old outcome) 1 more))

-- the tally of a list with the outcome at its end becomes that of the list without it
pub IsTally-pop : (outcomes : List Outcome) (old new : List (Outcome × ℕ)) (outcome : Outcome) → 1 ≤ count_of old outcome → new ≡ with_one_less old outcome
    → IsTally (outcomes ++ outcome ∷ []) old → IsTally outcomes new
IsTally-pop outcomes old new outcome some e h =
    let less = one_less old outcome h.counts new some e in
    record {
      counts = less.counts;
      counted = λ other.
          let before = h.counted other in
          let after = less.count other in
          let push = occurrences-push outcomes outcome other in
          omega (arith, before, after, push);
    }

-- an outcome at the end of a list is in its tally
pub last-is_counted : (outcomes : List Outcome) (pairs : List (Outcome × ℕ)) (outcome : Outcome) → IsTally (outcomes ++ outcome ∷ []) pairs → 1 ≤ count_of pairs outcome
last-is_counted outcomes pairs outcome h =
    let here = h.counted outcome in
    let push = occurrences-push outcomes outcome outcome in
    let own : cond {A = ℕ} (outcome_eq outcome outcome) 1 0 ≡ 1 = ap (λ (b : Bool). cond {A = ℕ} b 1 0) (outcome_eq_equivalence.refl outcome) in
    omega (arith, here, push, own)

no_counts : IsCounts []
unfolding IsStrictlySortedBy
no_counts = record { rising = tt; positive = All-nil (λ count. 1 ≤ count) }

-- the counts of a tally sum to the length of the list
pub total-tally : (outcomes : List Outcome) (pairs : List (Outcome × ℕ)) → IsTally outcomes pairs → total_of pairs ≡ length outcomes
total-tally outcomes pairs h =
    let same = ap total_of (one_from_counts pairs (with_each [] outcomes) h.counts (IsCounts-each [] outcomes no_counts) (λ other. let here = h.counted other in let each = count_of-each [] outcomes other in omega (arith, here, each))) in
    let all = total-each [] outcomes no_counts in
    omega (arith, same, all)
