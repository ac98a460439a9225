-- Whether a load of a thread gives another thread's store over the last own one, told by a walk behind the own store.
use Rattle.std.proofs.Common.{◌≡◌, ◌∙◌, ℕ, ◌+◌, ◌<◌, ◌≤◌, List, Bool, true, false, ◌&&◌, inl, inr, arith, refl, sym, ap, subst}
use Rattle.std.specs.Prelude.{Some, nat_lt, ◌==◌}
use Rattle.std.proofs.lemmas.Bool.{cases_eq, cases_lt, eqb-true, eq-eqb}
use Rattle.std.proofs.lemmas.Bool.Decides.{nat_tests}
use Rattle.test_lang.specs.declared.op.Action.TheVariants.{Load, Store}
use Rattle.test_lang.specs.Program.{Program, op_count, thread_at, first_node, thread_length}
use Rattle.test_lang.specs.Values.{is_load_at, is_store_at, same_thread, one_word, value_of}
use Rattle.test_lang.specs.Runs.{value_read, writes_for, own_earlier, base_store}
use Rattle.test_lang.specs.EdgeList.{is_written_before}
use Rattle.test_lang.proofs.CandidateKinds.{base_store_is, base_store_of}
use Rattle.test_lang.proofs.EdgeTests.{IsWrittenBy, at_nodes-below, decides_written}
use Rattle.test_lang.proofs.Nodes.{same_thread_iff}
use Rattle.test_lang.proofs.Threads.{thread_at-stands, thread_at_some, stands-thread_at}
use Rattle.graph_model.proofs.Beside.{both, both_true}
use Rattle.graph_model.proofs.FewRunEdges.{load_is, store_is, words_are, no_load_and_store}

false_of : (b : Bool) → (b ≡ true → ⊥) → b ≡ false
false_of true h = absurd (h refl)
false_of false h = refl

lt_of : (a b : ℕ) → nat_lt a b ≡ true → a < b
lt_of a b h = grind (arith, nat_tests)

lt_true : (a b : ℕ) → a < b → nat_lt a b ≡ true
lt_true a b h = grind (arith, nat_tests)

-- behind the own store, before m: no other store to its word, and no load that gives the store over it
pub record Passed (p : Program) (run : List ℕ) (from to m : ℕ) : Type 0 where
  pub above : from < m
  pub no_store : (k : ℕ) → from < k → k < m → is_store_at p k ≡ true → one_word p from k ≡ true → ⊥
  pub no_load : (k : ℕ) → from < k → k < m → IsWrittenBy p run from to k → ⊥

pub passed_none : (p : Program) (run : List ℕ) (from to : ℕ) → Passed p run from to (from + 1)
passed_none p run from to = record {
  above = omega arith;
  no_store = λ k above below. absurd (omega (arith, above, below));
  no_load = λ k above below. absurd (omega (arith, above, below));
}

-- one node more
pub passed_more : (p : Program) (run : List ℕ) (from to m : ℕ) → Passed p run from to m → (is_store_at p m ≡ true → one_word p from m ≡ true → ⊥) → (IsWrittenBy p run from to m → ⊥) → Passed p run from to (m + 1)
passed_more p run from to m h store load =
    let above = h.above in
    record {
      above = omega (arith, above);
      no_store = λ k after below. elim (cases_eq k m) [
        | inl same ↦ subst (λ (n : ℕ). is_store_at p n ≡ true → one_word p from n ≡ true → ⊥) (sym same) store
        | inr other ↦ h.no_store k after (omega (arith, below, other))
      ];
      no_load = λ k after below. elim (cases_eq k m) [
        | inl same ↦ subst (λ (n : ℕ). IsWrittenBy p run from to n → ⊥) (sym same) load
        | inr other ↦ h.no_load k after (omega (arith, below, other))
      ];
    }

module _ (p : Program) (run : List ℕ) (from to t end : ℕ) (from_store : is_store_at p from ≡ true) (from_in : thread_at p from ≡ Some t) (end_is : end ≡ first_node p t + thread_length p t) where
  -- a node behind it in its thread is in the thread
  behind_in : (m : ℕ) → from < m → m < end → thread_at p m ≡ Some t
  behind_in m above below =
      let stands = thread_at-stands p from t from_in in
      let begin = stands.from in
      stands-thread_at p m t (record { in_range = stands.in_range; from = omega (arith, begin, above); to = omega (arith, below, end_is) })

  pub apart_from : (u : ℕ) → thread_at p to ≡ Some u → (u ≡ t → ⊥) → (m : ℕ) → from < m → m < end → same_thread p to m ≡ false
  apart_from u to_in differ m above below = false_of (same_thread p to m) (λ h. differ ((same_thread_iff p to m u t to_in (behind_in m above below)).0 h))

  beside : (m : ℕ) → from < m → m < end → same_thread p m from ≡ true
  beside m above below = (same_thread_iff p m from t t (behind_in m above below) from_in).1 refl

  -- what a load with the own store as its base store is
  record IsBehind (load : ℕ) : Type 0 where
    above : from < load
    below : load < end
    word : one_word p load from ≡ true
    last : (n : ℕ) → from < n → own_earlier p load n ≡ false

  is_behind : (load : ℕ) → base_store p load ≡ Some from → IsBehind load
  is_behind load base =
      let is = base_store_is p load from base in
      let parts = both (writes_for p load from) (same_thread p load from && nat_lt from load) is.is_own in
      let place = both (same_thread p load from) (nat_lt from load) parts.1 in
      let word = (both (is_store_at p from) (one_word p load from) parts.0).1 in
      let lt : from < load = lt_of from load place.1 in
      record { above = lt; below = in_thread load place.0; word = word; last = is.is_last }
    where
      in_thread : (load : ℕ) → same_thread p load from ≡ true → load < end
      in_thread load h =
          let below = (at_nodes-below (λ first second. first.0 == second.0) p load from h).0 in
          let u = thread_at_some p load below in
          let same : u.0 ≡ t = (same_thread_iff p load from u.0 t u.1 from_in).0 h in
          let stands = thread_at-stands p load t (u.1 ∙ ap (λ (n : ℕ). Some n) same) in
          let to = stands.to in
          omega (arith, to, end_is)

  -- a load behind it that gives the store
  pub written_at : (m : ℕ) → Passed p run from to m → m < end → is_load_at p m ≡ true → one_word p from m ≡ true → is_store_at p to ≡ true → value_read p run m ≡ value_of p to → same_thread p to m ≡ false
      → is_written_before p run from to ≡ true
  written_at m h below load word to_store value apart =
      let l = load_is p m load in
      let s = store_is p from from_store in
      let same : s.1 ≡ l.1 = eqb-true s.1 l.1 (sym (words_are p from m s.0 l.0 (Store s.1) (Load l.1) s.2 l.2) ∙ word) in
      let back : one_word p m from ≡ true = words_are p m from l.0 s.0 (Load l.1) (Store s.1) l.2 s.2 ∙ eq-eqb l.1 s.1 (sym same) in
      let base = base_store_of p m from (record {
        is_own = both_true (writes_for p m from) (same_thread p m from && nat_lt from m) (both_true (is_store_at p from) (one_word p m from) from_store back)
            (both_true (same_thread p m from) (nat_lt from m) (beside m h.above below) (lt_true from m h.above));
        is_last = λ n above. false_of (own_earlier p m n) (λ own.
            let parts = both (writes_for p m n) (same_thread p m n && nat_lt n m) own in
            let before = lt_of n m (both (same_thread p m n) (nat_lt n m) parts.1).1 in
            let store = both (is_store_at p n) (one_word p m n) parts.0 in
            let r = store_is p n store.0 in
            let other : l.1 ≡ r.1 = eqb-true l.1 r.1 (sym (words_are p m n l.0 r.0 (Load l.1) (Store r.1) l.2 r.2) ∙ store.1) in
            h.no_store n above before store.0 (words_are p from n s.0 r.0 (Store s.1) (Store r.1) s.2 r.2 ∙ eq-eqb s.1 r.1 (same ∙ other)));
      }) in
      (decides_written p run from to).1 (m, (((to_store, load), (value, apart)), base))

  -- another store to the word behind it
  pub stopped_at : (m : ℕ) → Passed p run from to m → m < end → is_store_at p m ≡ true → one_word p from m ≡ true → is_written_before p run from to ≡ false
  stopped_at m h below store word = false_of (is_written_before p run from to) (λ yes.
      let found = (decides_written p run from to).0 yes in
      let b = is_behind found.0 found.1.1 in
      let above = b.above in
      elim (cases_lt found.0 m) [
        | inl before ↦ h.no_load found.0 above before found.1
        | inr not_before ↦ elim (cases_eq found.0 m) [
          | inl same ↦ no_load_and_store p m (subst (λ (n : ℕ). is_load_at p n ≡ true) same found.1.0.0.1) store
          | inr other ↦
              let l = load_is p found.0 found.1.0.0.1 in
              let s = store_is p from from_store in
              let r = store_is p m store in
              let one : l.1 ≡ s.1 = eqb-true l.1 s.1 (sym (words_are p found.0 from l.0 s.0 (Load l.1) (Store s.1) l.2 s.2) ∙ b.word) in
              let two : s.1 ≡ r.1 = eqb-true s.1 r.1 (sym (words_are p from m s.0 r.0 (Store s.1) (Store r.1) s.2 r.2) ∙ word) in
              let joined : same_thread p found.0 m ≡ true = (same_thread_iff p found.0 m t t (behind_in found.0 above b.below) (behind_in m h.above below)).1 refl in
              let after : m < found.0 = omega (arith, not_before, other) in
              let own : own_earlier p found.0 m ≡ true =
              both_true (writes_for p found.0 m) (same_thread p found.0 m && nat_lt m found.0)
              (both_true (is_store_at p m) (one_word p found.0 m) store (words_are p found.0 m l.0 r.0 (Load l.1) (Store r.1) l.2 r.2 ∙ eq-eqb l.1 r.1 (one ∙ two)))
              (both_true (same_thread p found.0 m) (nat_lt m found.0) joined (lt_true m found.0 after)) in
              let no = b.last m h.above in
              absurd cc
        ]
      ])

  -- no node is left in the thread
  pub passed_all : (m : ℕ) → Passed p run from to m → end ≤ m → is_written_before p run from to ≡ false
  passed_all m h past = false_of (is_written_before p run from to) (λ yes.
      let found = (decides_written p run from to).0 yes in
      let b = is_behind found.0 found.1.1 in
      let below = b.below in
      h.no_load found.0 b.above (omega (arith, below, past)) found.1)

-- a base store is a node
pub base_within : (p : Program) (load base : ℕ) → base_store p load ≡ Some base → base < op_count p
base_within p load base found =
    let is = base_store_is p load base found in
    let joined = (both (same_thread p load base) (nat_lt base load) (both (writes_for p load base) (same_thread p load base && nat_lt base load) is.is_own).1).0 in
    (at_nodes-below (λ first second. first.0 == second.0) p load base joined).1

-- a base store is of the load's word
pub word_of_base : (p : Program) (load base : ℕ) → is_load_at p load ≡ true → base_store p load ≡ Some base → one_word p base load ≡ true
word_of_base p load base is_load found =
    let is = base_store_is p load base found in
    let parts = both (is_store_at p base) (one_word p load base) (both (writes_for p load base) (same_thread p load base && nat_lt base load) is.is_own).0 in
    let l = load_is p load is_load in
    let s = store_is p base parts.0 in
    let same : l.1 ≡ s.1 = eqb-true l.1 s.1 (sym (words_are p load base l.0 s.0 (Load l.1) (Store s.1) l.2 s.2) ∙ parts.1) in
    words_are p base load s.0 l.0 (Store s.1) (Load l.1) s.2 l.2 ∙ eq-eqb s.1 l.1 (sym same)

-- where the first isn't a store, the second isn't one, or both are of one thread

pub not_from_store : (p : Program) (run : List ℕ) (from to : ℕ) → is_store_at p from ≡ false → false ≡ is_written_before p run from to
not_from_store p run from to e = sym (false_of (is_written_before p run from to) (λ yes.
    let found = (decides_written p run from to).0 yes in
    let is = base_store_is p found.0 from found.1.1 in
    let store = (both (is_store_at p from) (one_word p found.0 from) (both (writes_for p found.0 from) (same_thread p found.0 from && nat_lt from found.0) is.is_own).0).0 in
    absurd cc))

pub not_to_store : (p : Program) (run : List ℕ) (from to : ℕ) → is_store_at p to ≡ false → false ≡ is_written_before p run from to
not_to_store p run from to e = sym (false_of (is_written_before p run from to) (λ yes.
    let store = ((decides_written p run from to).0 yes).1.0.0.0 in
    absurd cc))

pub of_one_thread : (p : Program) (run : List ℕ) (from to t : ℕ) → thread_at p from ≡ Some t → thread_at p to ≡ Some t → false ≡ is_written_before p run from to
of_one_thread p run from to t from_in to_in = sym (false_of (is_written_before p run from to) (λ yes.
    let found = (decides_written p run from to).0 yes in
    let is = base_store_is p found.0 from found.1.1 in
    let joined = (both (same_thread p found.0 from) (nat_lt from found.0) (both (writes_for p found.0 from) (same_thread p found.0 from && nat_lt from found.0) is.is_own).1).0 in
    let below = (at_nodes-below (λ first second. first.0 == second.0) p found.0 from joined).0 in
    let u = thread_at_some p found.0 below in
    let same : u.0 ≡ t = (same_thread_iff p found.0 from u.0 t u.1 from_in).0 joined in
    let together : same_thread p to found.0 ≡ true = (same_thread_iff p to found.0 t u.0 to_in u.1).1 (sym same) in
    let apart = found.1.0.1.1 in
    absurd cc))
