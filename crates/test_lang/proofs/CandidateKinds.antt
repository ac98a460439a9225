-- What the candidates of a load are: the last own store before it or the initial value, and the stores of other threads.
use Rattle.std.proofs.Common.{◌≡◌, ℕ, ◌<◌, List, [], ◌∷◌, Bool, true, false, not, ◌&&◌, cond, Contains, inl, inr, refl, sym, ap, subst, ◌∙◌, Option, None, Some}
use Rattle.std.specs.Prelude.{filter, find, ◌==◌, nat_lt}
use Rattle.std.specs.List.{list_any}
use Rattle.std.specs.Option.{option_map_or}
use Rattle.std.proofs.lemmas.List.Elements.{Decides-contains}
use Rattle.std.proofs.lemmas.Bool.{cases_order}
use Rattle.std.proofs.lemmas.Option.{same_Some}
use Rattle.std.proofs.lemmas.Bool.Decides.{Decides-eqb, Decides-by_or}
use Rattle.orders.proofs.Below.{has-below}
use Rattle.orders.proofs.Members.{Contains-nil, Contains-cons_cases, Contains-filter, Contains-filter_back, Contains-map_back}
use Rattle.test_lang.specs.Program.{Program, op_count, all_nodes}
use Rattle.test_lang.specs.Values.{is_load, is_store, is_load_at, is_store_at, same_thread, one_word, value_of, load_nodes}
use Rattle.test_lang.specs.Runs.{own_earlier, writes_for, base_store, base, others, candidates, value_read, reads_candidate, IsInside}
use Rattle.test_lang.proofs.BaseStores.{LastBelow, base_store_below}
use Rattle.test_lang.proofs.BaseStores.LastBelow.{nothing, last}
use Rattle.test_lang.proofs.EdgeTests.{at_node-below, not-true}

-- a candidate of a load
pub data IsCandidate (p : Program) (load value : ℕ) : Type 0 where
  -- the initial value, where no own store to the word comes before
  initial : value ≡ 0 → ((n : ℕ) → own_earlier p load n ≡ false) → IsCandidate p load value
  -- the last own store to the word before it
  own : (store : ℕ) → own_earlier p load store ≡ true → value_of p store ≡ value → ((n : ℕ) → store < n → own_earlier p load n ≡ false) → IsCandidate p load value
  -- a store to the word in another thread
  other : (store : ℕ) → writes_for p load store ≡ true → same_thread p load store ≡ false → value_of p store ≡ value → IsCandidate p load value

and_true : (x y : Bool) → (x && y) ≡ true → (x ≡ true) × (y ≡ true)
and_true true y h = (refl, h)
and_true false y h = absurd cc

false_or_true : (b : Bool) → (b ≡ true → ⊥) → b ≡ false
false_or_true true h = absurd (h refl)
false_or_true false h = refl

-- an own earlier store is a node before the load
own_earlier_below : (p : Program) (load n : ℕ) → own_earlier p load n ≡ true → n < op_count p
own_earlier_below p load n h =
    at_node-below (λ node. is_store node.1) p n
    (and_true (is_store_at p n) (one_word p load n) (and_true (writes_for p load n) (same_thread p load n && nat_lt n load) h).0).0

none_anywhere : (p : Program) (load : ℕ) → ((k : ℕ) → k < op_count p → own_earlier p load k ≡ false) → (n : ℕ) → own_earlier p load n ≡ false
none_anywhere p load none n = false_or_true (own_earlier p load n) (λ h. let lacks = none n (own_earlier_below p load n h) in absurd cc)

none_above : (p : Program) (load w : ℕ) → ((k : ℕ) → w < k → k < op_count p → own_earlier p load k ≡ false) → (n : ℕ) → w < n → own_earlier p load n ≡ false
none_above p load w none n above = false_or_true (own_earlier p load n) (λ h. let lacks = none n above (own_earlier_below p load n h) in absurd cc)

-- what a base store is
pub record IsBaseStore (p : Program) (load store : ℕ) : Type 0 where
  pub is_own : own_earlier p load store ≡ true
  pub is_last : (n : ℕ) → store < n → own_earlier p load n ≡ false

base_store_from : (p : Program) (load store : ℕ) (found : Option ℕ) → LastBelow (own_earlier p load) (op_count p) found → found ≡ Some store → IsBaseStore p load store
base_store_from p load store found (nothing is none) e = absurd cc
base_store_from p load store found (last w lt t is none) e =
    let same : w ≡ store = same_Some w store (sym is ∙ e) in
    subst (IsBaseStore p load) same (record { is_own = t; is_last = none_above p load w none })

-- the last own earlier store is the base store
base_store_of-from : (p : Program) (load store : ℕ) (found : Option ℕ) → LastBelow (own_earlier p load) (op_count p) found → IsBaseStore p load store → found ≡ Some store
base_store_of-from p load store found (nothing is none) base =
    let lacks = none store (own_earlier_below p load store base.is_own) in
    let own = base.is_own in
    absurd cc
base_store_of-from p load store found (last w lt t is none) base = elim (cases_order w store) [
  | inl same ↦ is ∙ ap (λ (n : ℕ). Some n) same
  | inr (inl before) ↦
      let lacks = none store before (own_earlier_below p load store base.is_own) in
      let own = base.is_own in
      absurd cc
  | inr (inr after) ↦ let lacks = base.is_last w after in absurd cc
]

pub base_store_of : (p : Program) (load store : ℕ) → IsBaseStore p load store → base_store p load ≡ Some store
base_store_of p load store base = base_store_of-from p load store (base_store p load) (base_store_below p load) base

pub base_store_is : (p : Program) (load store : ℕ) → base_store p load ≡ Some store → IsBaseStore p load store
base_store_is p load store e = base_store_from p load store (base_store p load) (base_store_below p load) e

base_kind : (p : Program) (load value : ℕ) (found : Option ℕ) → LastBelow (own_earlier p load) (op_count p) found → option_map_or (value_of p) found 0 ≡ value → IsCandidate p load value
base_kind p load value found (nothing is none) e =
    let zero : option_map_or (value_of p) found 0 ≡ 0 = ap (λ (o : Option ℕ). option_map_or (value_of p) o 0) is in
    initial (sym e ∙ zero) (none_anywhere p load none)
base_kind p load value found (last w lt t is none) e =
    let given : option_map_or (value_of p) found 0 ≡ value_of p w = ap (λ (o : Option ℕ). option_map_or (value_of p) o 0) is in
    own w t (sym given ∙ e) (none_above p load w none)

-- each element of the list of candidates is of one of the three kinds
pub candidate_kind : (p : Program) (load value : ℕ) → Contains (candidates p load) value → IsCandidate p load value
candidate_kind p load value h = elim (Contains-cons_cases (base p load) (others p load) value h) [
  | inl same ↦ base_kind p load value (base_store p load) (base_store_below p load) same
  | inr more ↦
      let store = Contains-map_back (value_of p) (filter (λ n. writes_for p load n && not (same_thread p load n)) (all_nodes p)) value more in
      let parts = and_true (writes_for p load store.0) (not (same_thread p load store.0)) (Contains-filter_back (λ n. writes_for p load n && not (same_thread p load n)) (all_nodes p) store.0 store.1).1 in
      other store.0 parts.0 (not-true (same_thread p load store.0) parts.1) store.2
]

find_none : (test : ℕ → Bool) (xs : List ℕ) → find test xs ≡ None → (x : ℕ) → Contains xs x → test x ≡ false
find_none test [] e x h = absurd (Contains-nil x h)
find_none test (y ∷ ys) e x h = at (test y) refl e (λ rest more. find_none test ys rest x more) where
  at : (b : Bool) → test y ≡ b → cond b (Some y) (find test ys) ≡ None → (find test ys ≡ None → Contains ys x → test x ≡ false) → test x ≡ false
  at true t e rest = absurd cc
  at false t e rest = elim (Contains-cons_cases y ys x h) [ inl same ↦ subst (λ (z : ℕ). test z ≡ false) same t | inr more ↦ rest e more ]

not_false : (b : Bool) → not b ≡ false → b ≡ true
not_false true h = refl
not_false false h = absurd cc

-- a load that is a node stands in the list of loads
pub load_nodes-has : (p : Program) (load : ℕ) → is_load_at p load ≡ true → Contains (load_nodes p) load
load_nodes-has p load h = Contains-filter (is_load_at p) (all_nodes p) load (has-below (op_count p) load (at_node-below (λ node. is_load node.1) p load h)) h

-- the value that a load gives in an inside run is a candidate's
pub inside_candidate : (p : Program) (run : List ℕ) (load : ℕ) → IsInside p run → is_load_at p load ≡ true → IsCandidate p load (value_read p run load)
inside_candidate p run load inside h =
    let reads : reads_candidate p run load ≡ true =
    not_false (reads_candidate p run load) (find_none (λ l. not (reads_candidate p run l)) (load_nodes p) inside.none_outside load (load_nodes-has p load h)) in
    candidate_kind p load (value_read p run load)
    ((Decides-contains (candidates p load) (value_read p run load) (reads_candidate p run load)
    (Decides-by_or (λ candidate. candidate == value_read p run load) (λ candidate. candidate ≡ value_read p run load) (list_any (λ candidate. candidate == value_read p run load))
    (λ candidate. Decides-eqb candidate (value_read p run load)) refl (λ x xs. refl) (candidates p load))).0 reads)
