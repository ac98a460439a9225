-- The order of outcomes is total, and tells apart all that differ.
use Rattle.std.specs.Prelude.{◌≡◌, ℕ, List, Bool, true, nat_eq}
use Rattle.std.specs.Bool.{Decides}
use Rattle.std.specs.Cmp.{IsPartialEquivalence, IsEquivalence, IsPartialOrder, IsTotalOrder, partial_equiv_from_equiv, po}
use Rattle.std.specs.Cmp.Lexicographic.{pointwise, slice_cmp, bytes_decides}
use Rattle.std.specs.Cmp.Rules.{comparing}
use Rattle.std.specs.declared.cmp.Ordering.{Ordering}
use Rattle.std.specs.declared.cmp.Ordering.TheVariants.{Less, Equal}
use Rattle.std.specs.Ordering.{nat_cmp, ordering_reverse, then_cmp, on, eq_of_both, eq_by_cmp, as_partial_cmp}
use Rattle.std.proofs.Common.{refl, ap, rules, arith}
use Rattle.std.proofs.lemmas.Bool.Decides.{nat_tests}
use Rattle.std.proofs.lemmas.Cmp.{nat_list_cmp_total, nat_list_eq_equiv, then_total, on_total, nat_cmp_total, and_equiv, on_equiv, nat_eq_equiv}
use Rattle.tally.specs.declared.outcome.Outcome.{Outcome}
use Rattle.tally.specs.declared.outcome.Outcome.TheVariants.{Inside, Outside}
use Rattle.tally.specs.Outcomes.{outcome_eq, outcome_cmp}

-- a pair of numbers, first one first
abbrev pair_cmp : ℕ × ℕ → ℕ × ℕ → Ordering
pair_cmp = then_cmp (on (λ p. p.0) nat_cmp) (on (λ p. p.1) nat_cmp)

pair_cmp_total : IsTotalOrder pair_cmp
pair_cmp_total = then_total (on_total (λ p. p.0) nat_cmp_total) (on_total (λ p. p.1) nat_cmp_total)

abbrev pair_eq : ℕ × ℕ → ℕ × ℕ → Bool
pair_eq = eq_of_both (on (λ p. p.0) nat_eq) (on (λ p. p.1) nat_eq)

pair_eq_equivalence : IsEquivalence pair_eq
pair_eq_equivalence = and_equiv (on_equiv (λ p. p.0) nat_eq_equiv) (on_equiv (λ p. p.1) nat_eq_equiv)

pub outcome_cmp_total : IsTotalOrder outcome_cmp
outcome_cmp_total = record { antisymm = antisymm; trans = trans; congr = congr }
  where
    antisymm : (x y : Outcome) → outcome_cmp x y ≡ ordering_reverse (outcome_cmp y x)
    antisymm (Inside s) (Inside t) = nat_list_cmp_total.antisymm s t
    antisymm (Inside s) (Outside n v) = refl
    antisymm (Outside n v) (Inside s) = refl
    antisymm (Outside n v) (Outside m w) = pair_cmp_total.antisymm (n, v) (m, w)

    trans : (x y z : Outcome) → outcome_cmp x y ≡ Less → outcome_cmp y z ≡ Less → outcome_cmp x z ≡ Less
    trans (Inside s) (Inside t) (Inside u) p q = nat_list_cmp_total.trans s t u p q
    trans (Inside s) (Inside t) (Outside n v) p q = refl
    trans (Inside s) (Outside n v) (Inside u) p q = cc
    trans (Inside s) (Outside n v) (Outside m w) p q = refl
    trans (Outside n v) (Inside s) z p q = cc
    trans (Outside n v) (Outside m w) (Inside s) p q = cc
    trans (Outside n v) (Outside m w) (Outside k x) p q = pair_cmp_total.trans (n, v) (m, w) (k, x) p q

    congr : (x y z : Outcome) → outcome_cmp x y ≡ Equal → outcome_cmp x z ≡ outcome_cmp y z
    congr (Inside s) (Inside t) (Inside u) p = nat_list_cmp_total.congr s t u p
    congr (Inside s) (Inside t) (Outside n v) p = refl
    congr (Inside s) (Outside n v) z p = cc
    congr (Outside n v) (Inside s) z p = cc
    congr (Outside n v) (Outside m w) (Inside s) p = refl
    congr (Outside n v) (Outside m w) (Outside k x) p = pair_cmp_total.congr (n, v) (m, w) (k, x) p

pub outcome_eq_equivalence : IsEquivalence outcome_eq
outcome_eq_equivalence = record { refl = itself; symm = symm; congr = congr }
  where
    itself : (x : Outcome) → outcome_eq x x ≡ true
    itself (Inside s) = nat_list_eq_equiv.refl s
    itself (Outside n v) = pair_eq_equivalence.refl (n, v)

    symm : (x y : Outcome) → outcome_eq x y ≡ outcome_eq y x
    symm (Inside s) (Inside t) = nat_list_eq_equiv.symm s t
    symm (Inside s) (Outside n v) = refl
    symm (Outside n v) (Inside s) = refl
    symm (Outside n v) (Outside m w) = pair_eq_equivalence.symm (n, v) (m, w)

    congr : (x y z : Outcome) → outcome_eq x y ≡ true → outcome_eq x z ≡ outcome_eq y z
    congr (Inside s) (Inside t) (Inside u) p = nat_list_eq_equiv.congr s t u p
    congr (Inside s) (Inside t) (Outside n v) p = refl
    congr (Inside s) (Outside n v) z p = cc
    congr (Outside n v) (Inside s) z p = cc
    congr (Outside n v) (Outside m w) (Inside s) p = refl
    congr (Outside n v) (Outside m w) (Outside k x) p = pair_eq_equivalence.congr (n, v) (m, w) (k, x) p

pub outcome_eq_partial : IsPartialEquivalence outcome_eq
outcome_eq_partial = partial_equiv_from_equiv outcome_eq_equivalence

lists_tie : (s t : List ℕ) → pointwise nat_eq s t ≡ eq_by_cmp (slice_cmp nat_cmp) s t
lists_tie = search (comparing, rules)

pairs_tie : (p q : ℕ × ℕ) → pair_eq p q ≡ eq_by_cmp pair_cmp p q
pairs_tie = search (comparing, rules)

-- what is equal ties, and nothing else does
pub outcome_ties : (x y : Outcome) → outcome_eq x y ≡ eq_by_cmp outcome_cmp x y
outcome_ties (Inside s) (Inside t) = lists_tie s t
outcome_ties (Inside s) (Outside n v) = refl
outcome_ties (Outside n v) (Inside s) = refl
outcome_ties (Outside n v) (Outside m w) = pairs_tie (n, v) (m, w)

pub outcome_cmp_partial : IsPartialOrder outcome_eq (as_partial_cmp outcome_cmp)
outcome_cmp_partial = po outcome_cmp_total outcome_ties

-- two outcomes are equal exactly where they are the same
pub outcome_eq_decides : (x y : Outcome) → Decides (outcome_eq x y) (x ≡ y)
outcome_eq_decides (Inside s) (Inside t) = (λ e. ap Inside ((bytes_decides s t).0 e), λ e. (bytes_decides s t).1 cc)
outcome_eq_decides (Inside s) (Outside n v) = (λ e. cc, λ e. cc)
outcome_eq_decides (Outside n v) (Inside s) = (λ e. cc, λ e. cc)
outcome_eq_decides (Outside n v) (Outside m w) = (λ e. grind (arith, nat_tests), λ e. grind (arith, nat_tests))
