-- The tally of a list is the sum of the tallies of its parts.
use Rattle.std.proofs.Common.{◌≡◌, ◌∙◌, ℕ, ◌+◌, ◌^◌, ◌<◌, ◌≤◌, List, [], ◌∷◌, ◌++◌, subst, Bool, true, false, cond, refl, sym, ap, append_assoc, arith, add-zero}
use Rattle.std.specs.Prelude.{unwrap_or}
use Rattle.std.specs.Map.{keys_of, values_of}
use Rattle.std.proofs.lemmas.List.{append-nil}
use Rattle.std.proofs.lemmas.List.Elements.{All-head, All-tail}
use Rattle.std.proofs.lemmas.List.Sums.{sum_by-append, sum_by-cons}
use Rattle.std.proofs.lemmas.Map.{lookup-none}
use Rattle.std.proofs.lemmas.Map.Entries.{lookup_head, lookup_tail, none_past_head}
use Rattle.std.proofs.lemmas.Map.Keys.{sorted_tail, IsDistinct-from_sorted}
use Rattle.std.proofs.lemmas.Cmp.{eq_by_cmp_equiv}
use Rattle.tally.specs.declared.outcome.Outcome.{Outcome}
use Rattle.tally.specs.Outcomes.{outcome_eq, outcome_cmp}
use Rattle.tally.specs.OutcomeLaws.{outcome_cmp_total, outcome_ties}
use Rattle.tally.specs.Tallies.{IsCounts, IsTally, count_of, total_of, with_more}
use Rattle.tally.specs.Joining.{HasSomeOf, IsSum, with_counts}
use Rattle.tally.proofs.Growing.{IsCounts-more, count_of-more, count_at, total-more}
use Rattle.tally.proofs.OneTally.{one_from_counts}

-- Whatever gives each outcome the sum of its counts is the tally of both lists.
pub sum-tally : (xs ys : List Outcome) (ps qs sum : List (Outcome × ℕ)) → IsTally xs ps → IsTally ys qs → IsSum ps qs sum → IsTally (xs ++ ys) sum
sum-tally xs ys ps qs sum h k s = record {
  counts = s.counts;
  counted = λ outcome.
      let parts = sum_by-append (λ x. cond (outcome_eq outcome x) 1 0) xs ys in
      omega (arith, s.each outcome, h.counted outcome, k.counted outcome, parts);
}

-- there is one sum
pub one-sum : (ps qs sum sum' : List (Outcome × ℕ)) → IsSum ps qs sum → IsSum ps qs sum' → sum ≡ sum'
one-sum ps qs sum sum' h k = one_from_counts sum sum' h.counts k.counts (λ outcome. h.each outcome ∙ sym (k.each outcome))

-- The first of rising pairs.
module _ (pair : Outcome × ℕ) (others : List (Outcome × ℕ)) (h : IsCounts (pair ∷ others)) where
  pub counts-tail : IsCounts others
  counts-tail = record {
    rising = sorted_tail outcome_cmp pair.0 (keys_of others) h.rising;
    positive = All-tail (λ count. 1 ≤ count) pair.1 (values_of others) h.positive;
  }

  pub counts-head : 1 ≤ pair.1
  counts-head = All-head (λ count. 1 ≤ count) pair.1 (values_of others) h.positive

  -- an outcome's count is that of the first pair, if it is its outcome, and else stands behind it
  pub count-split : (outcome : Outcome) → count_of (pair ∷ others) outcome ≡ cond (outcome_eq outcome pair.0) pair.1 0 + count_of others outcome
  count-split outcome = by (outcome_eq outcome pair.0) refl
    where
      by : (b : Bool) → outcome_eq outcome pair.0 ≡ b → count_of (pair ∷ others) outcome ≡ cond b pair.1 0 + count_of others outcome
      by true e =
          let here = ap (λ o. unwrap_or o 0) (lookup_head (outcome_eq outcome) pair others e) in
          let tied = sym (outcome_ties outcome pair.0) ∙ e in
          let none = lookup-none _ others (none_past_head (eq_by_cmp_equiv outcome_cmp_total) outcome pair others (IsDistinct-from_sorted outcome_cmp _ h.rising) tied) in
          let rest : count_of others outcome ≡ 0 = count_at others outcome ∙ ap (λ o. unwrap_or o 0) none in
          omega (arith, here, rest)
      by false e =
          let behind = ap (λ o. unwrap_or o 0) (lookup_tail (outcome_eq outcome) pair others e) in
          omega (arith, behind)

pub with_counts-sum : (qs ps : List (Outcome × ℕ)) → IsCounts ps → IsCounts qs → IsSum ps qs (with_counts ps qs)
with_counts-sum [] ps h k = record { counts = h; each = λ outcome. sym (add-zero (count_of ps outcome)) }
with_counts-sum (q ∷ qs) ps h k =
    let first = counts-head q qs k in
    let more = IsCounts-more ps (with_more ps q.0 q.1) q.0 q.1 h (omega (arith, first)) refl in
    let rest = with_counts-sum qs (with_more ps q.0 q.1) more (counts-tail q qs k) in
    record {
      counts = rest.counts;
      each = λ outcome. omega (arith, rest.each outcome, count_of-more ps q.0 q.1 outcome, count-split q qs k outcome);
    }

pub with_counts-tally : (xs ys : List Outcome) (ps qs : List (Outcome × ℕ)) → IsTally xs ps → IsTally ys qs → IsTally (xs ++ ys) (with_counts ps qs)
with_counts-tally xs ys ps qs h k = sum-tally xs ys ps qs (with_counts ps qs) h k (with_counts-sum qs ps h.counts k.counts)

pub total-cons : (pair : Outcome × ℕ) (others : List (Outcome × ℕ)) → total_of (pair ∷ others) ≡ pair.1 + total_of others
total-cons pair others = sum_by-cons (λ (n : ℕ). n) pair.1 (values_of others)

with_counts-push : (front ps : List (Outcome × ℕ)) (pair : Outcome × ℕ) → with_counts ps (front ++ pair ∷ []) ≡ with_more (with_counts ps front) pair.0 pair.1
with_counts-push [] ps pair = refl
with_counts-push (first ∷ front) ps pair = with_counts-push front (with_more ps first.0 first.1) pair

-- A front of the others was counted on, and these are left.
pub record IsJoining (before others now left : List (Outcome × ℕ)) : Type 0 where
  pub front : List (Outcome × ℕ)
  pub whole : others ≡ front ++ left
  pub counted : now ≡ with_counts before front
  pub rest : IsCounts left
  pub total : total_of now + total_of left ≡ total_of before + total_of others
  pub room : total_of now + total_of left < 2 ^ 64

pub joining-begun : (before others : List (Outcome × ℕ)) → IsCounts others → total_of before + total_of others < 2 ^ 64 → IsJoining before others before others
joining-begun before others counts room = record { front = []; whole = refl; counted = refl; rest = counts; total = refl; room = room }

module _ (before others now left : List (Outcome × ℕ)) (h : IsJoining before others now left) where
  pub joining-stopped : HasSomeOf others before now
  joining-stopped = record { front = h.front; behind = left; whole = h.whole; counted = h.counted }

  pub joining-end : left ≡ [] → now ≡ with_counts before others
  joining-end e = h.counted ∙ ap (with_counts before) (sym (h.whole ∙ ap (λ l. h.front ++ l) e ∙ append-nil h.front))

  pub joining-total : left ≡ [] → total_of now ≡ total_of before + total_of others
  joining-total e = omega (arith, h.total, ap total_of e)

  pub joining-tally : left ≡ [] → (xs ys : List Outcome) → IsTally xs before → IsTally ys others → IsTally (xs ++ ys) now
  joining-tally e xs ys x y = subst (IsTally (xs ++ ys)) (sym (joining-end e)) (with_counts-tally xs ys before others x y)

  module _ (outcome : Outcome) (times : ℕ) (rest : List (Outcome × ℕ)) (is : left ≡ (outcome, times) ∷ rest) where
    here : IsCounts ((outcome, times) ∷ rest)
    here = subst IsCounts is h.rest

    total-left : total_of left ≡ times + total_of rest
    total-left = ap total_of is ∙ total-cons (outcome, times) rest

    pub joining-some : 1 ≤ times
    joining-some = counts-head (outcome, times) rest here

    pub joining-room : total_of now + times < 2 ^ 64
    joining-room = omega (arith, h.room, total-left)

    pub joining-step : (new : List (Outcome × ℕ)) → IsCounts now → new ≡ with_more now outcome times → IsJoining before others new rest
    joining-step new counts added = record {
      front = h.front ++ (outcome, times) ∷ [];
      whole = h.whole ∙ ap (λ l. h.front ++ l) is ∙ sym (append_assoc h.front ((outcome, times) ∷ []) rest);
      counted = added ∙ ap (λ ps. with_more ps outcome times) h.counted ∙ sym (with_counts-push h.front before (outcome, times));
      rest = counts-tail (outcome, times) rest here;
      total = omega (arith, h.total, total-left, total-more now new outcome times counts added);
      room = omega (arith, h.room, total-left, total-more now new outcome times counts added);
    }
