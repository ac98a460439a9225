-- An explained run is inside.
use Rattle.std.proofs.Common.{◌≡◌, ◌∙◌, ℕ, ◌<◌, ◌≤◌, ◌^◌, List, [], ◌∷◌, Bool, true, false, not, ◌&&◌, cond, length, get_or, Contains, All, Option, None, Some, ⊎_elim, arith, refl, sym, ap, subst}
use Rattle.std.specs.Prelude.{◌==◌, ◌⊎◌, find, filter, nat_lt}
use Rattle.std.specs.Option.{option_map_or}
use Rattle.std.proofs.lemmas.List.{get_or_default}
use Rattle.std.proofs.lemmas.Option.{slice_get-get_or}
use Rattle.std.proofs.lemmas.Bool.{cases_order, eq-eqb}
use Rattle.std.proofs.lemmas.Bool.Decides.{Decides-ltb}
use Rattle.orders.proofs.Below.{has-below}
use Rattle.orders.proofs.Members.{Contains-head, Contains-tail, Contains-map, Contains-filter, Contains-filter_back}
use Rattle.test_lang.specs.Program.{Program, op_count, all_nodes, IsWithinLimits}
use Rattle.test_lang.specs.Values.{is_load_at, is_store_at, same_thread, one_word, value_of, store_count, load_nodes, rank_of}
use Rattle.test_lang.specs.Runs.{value_read, writes_for, own_earlier, base, base_store, others, candidates, reads_candidate, IsInside}
use Rattle.test_lang.proofs.BaseStores.{LastBelow, base_store_below}
use Rattle.test_lang.proofs.BaseStores.LastBelow.{nothing, last}
use Rattle.test_lang.proofs.Ranks.{is_load_at-below, is_store_at-below, value_of-le, store_count-le, length-load_nodes, load_nodes-is_load, load_nodes-rank}
use Rattle.test_lang.specs.Play.Explanations.{Explains, KeepsOneWord}
use Rattle.test_lang.proofs.PlayLaws.Lasts.{both, both_true, any_passes}
use Rattle.test_lang.proofs.PlayLaws.Words.{one_word-as, same_thread-as, not_both}
use Rattle.test_lang.proofs.PlayLaws.Giving.{own_store, base_own, base_value}
use Rattle.test_lang.proofs.PlayLaws.Giving.WhyAt.{before, initial, read}
use Rattle.test_lang.proofs.PlayLaws.Edges.{at_place, reason, forward, store_at, word_at}

-- the base of a load is 0, or the value of a store behind which no own one stands
pub data Base (p : Program) (load : ℕ) : Type 0 where
  no_store : base p load ≡ 0 → ((n : ℕ) → own_earlier p load n ≡ true → ⊥) → Base p load
  last_store : (w : ℕ) → base_store p load ≡ Some w → ((n : ℕ) → w < n → own_earlier p load n ≡ true → ⊥) → Base p load

base_from : (p : Program) (load : ℕ) (found : Option ℕ) → base_store p load ≡ found → LastBelow (own_earlier p load) (op_count p) found → Base p load
base_from p load found e (nothing is none) =
    no_store (ap (λ o. option_map_or (value_of p) o 0) (e ∙ is)) (λ n own. let lacks = none n (is_store_at-below p n (own_store p load n own).is_store) in absurd cc)
base_from p load found e (last w lt t is none) =
    last_store w (e ∙ is) (λ n above own. let lacks = none n above (is_store_at-below p n (own_store p load n own).is_store) in absurd cc)

pub base_kind : (p : Program) (load : ℕ) → Base p load
base_kind p load = base_from p load (base_store p load) refl (base_store_below p load)

pub base_writes : (p : Program) (load w : ℕ) → base_store p load ≡ Some w → writes_for p load w ≡ true
base_writes p load w is = let o = base_own p load w is in both_true (is_store_at p w) (one_word p load w) o.is_store o.word

is_candidate : (p : Program) (run : List ℕ) (load value : ℕ) → Contains (candidates p load) value → value_read p run load ≡ value → reads_candidate p run load ≡ true
is_candidate p run load value there e = any_passes (λ candidate. candidate == value_read p run load) (candidates p load) value there (eq-eqb value (value_read p run load) (sym e))

reads_base : (p : Program) (run : List ℕ) (load : ℕ) → value_read p run load ≡ base p load → reads_candidate p run load ≡ true
reads_base p run load e = is_candidate p run load (base p load) (Contains-head (base p load) (others p load) (base p load) refl) e

reads_other : (p : Program) (run : List ℕ) (load store : ℕ) → writes_for p load store ≡ true → same_thread p load store ≡ false → value_read p run load ≡ value_of p store → reads_candidate p run load ≡ true
reads_other p run load store writes apart e =
    let is_store = (both (is_store_at p store) (one_word p load store) writes).0 in
    let test : (writes_for p load store && not (same_thread p load store)) ≡ true = both_true (writes_for p load store) (not (same_thread p load store)) writes (ap not apart) in
    is_candidate p run load (value_of p store)
    (Contains-tail (base p load) (others p load) (value_of p store)
    (Contains-map (value_of p) (filter (λ n. writes_for p load n && not (same_thread p load n)) (all_nodes p)) store
    (Contains-filter (λ n. writes_for p load n && not (same_thread p load n)) (all_nodes p) store (has-below (op_count p) store (is_store_at-below p store is_store)) test))) e

pub find_no : (test : ℕ → Bool) (xs : List ℕ) → ((x : ℕ) → Contains xs x → test x ≡ false) → find test xs ≡ None
find_no test [] h = refl
find_no test (y ∷ ys) h = ap (λ b. cond b (Some y) (find test ys)) (h y (Contains-head y ys y refl)) ∙ find_no test ys (λ x there. h x (Contains-tail y ys x there))

module _ (Kept : ℕ → ℕ → Type 0) (p : Program) (run order : List ℕ) (one : KeepsOneWord Kept p) (e : Explains Kept p run order) where
  -- a load that reads a store of its own thread from memory reads its base
  reads_own : (j k : ℕ) → j < length order → k < j → is_load_at p (get_or order j 0) ≡ true → writes_for p (get_or order j 0) (get_or order k 0) ≡ true → same_thread p (get_or order j 0) (get_or order k 0) ≡ true →
      value_read p run (get_or order j 0) ≡ value_of p (get_or order k 0) → ((i : ℕ) → k < i → i < j → writes_for p (get_or order j 0) (get_or order i 0) ≡ false) →
      ((store : ℕ) → base_store p (get_or order j 0) ≡ Some store → (i : ℕ) × (i < j) × (get_or order i 0 ≡ store)) → reads_candidate p run (get_or order j 0) ≡ true
  reads_own j k lj lt load writes thread value rest bases =
      let l = get_or order j 0 in
      let s = get_or order k 0 in
      let is_store : is_store_at p s ≡ true = store_at Kept p run order one e l s writes in
      let word : one_word p l s ≡ true = word_at Kept p run order one e l s writes in
      let lk : k < length order = omega (arith, lt, lj) in
      ⊎_elim
      (λ (same : s ≡ l). absurd (not_both p l load (subst (λ (x : ℕ). is_store_at p x ≡ true) same is_store)))
      (λ (other : (s < l) ⊎ (l < s)). ⊎_elim
      (λ (early : s < l).
      let own : own_earlier p l s ≡ true = both_true (writes_for p l s) (same_thread p l s && nat_lt s l) writes (both_true (same_thread p l s) (nat_lt s l) thread ((Decides-ltb s l).1 early)) in
      elim (base_kind p l) [
        | no_store z none ↦ absurd (none s own)
        | last_store w is none ↦
            let o = base_own p l w is in
            ⊎_elim
            (λ (same : s ≡ w). reads_base p run l (value ∙ ap (value_of p) same ∙ base_value p l w is))
            (λ (apart : (s < w) ⊎ (w < s)). ⊎_elim
            (λ (before_w : s < w).
            let found = bases w is in
            let below = found.1 in
            let st : same_thread p s w ≡ true = sym (same_thread-as p l s w thread) ∙ o.thread in
            let sw : one_word p s w ≡ true = sym (one_word-as p l s w word) ∙ o.word in
            let after : k < found.0 = forward Kept p run order one e k found.0 s w lk (omega (arith, below, lj)) refl found.2 before_w st sw o.is_store in
            let no : writes_for p l (get_or order found.0 0) ≡ false = rest found.0 after below in
            let yes : writes_for p l (get_or order found.0 0) ≡ true = subst (λ (x : ℕ). writes_for p l x ≡ true) (sym found.2) (base_writes p l w is) in
            absurd cc)
            (λ (behind : w < s). absurd (none s behind own))
            apart)
            (cases_order s w)
      ])
      (λ (late : l < s).
      let after : j < k = forward Kept p run order one e j k l s lj lk refl refl late thread word is_store in
      absurd (omega (arith, after, lt)))
      other)
      (cases_order s l)

  reads_one : (j : ℕ) → j < length order → is_load_at p (get_or order j 0) ≡ true → reads_candidate p run (get_or order j 0) ≡ true
  reads_one j lj load = elim (reason Kept p run order one e j lj load) [
    | before own is value waits ↦ reads_base p run (get_or order j 0) (value ∙ base_value p (get_or order j 0) own is)
    | initial z none bases ↦ elim (base_kind p (get_or order j 0)) [
      | no_store b none_own ↦ reads_base p run (get_or order j 0) (z ∙ sym b)
      | last_store w is none_own ↦
          let found = bases w is in
          let no : writes_for p (get_or order j 0) (get_or order found.0 0) ≡ false = none found.0 found.1 in
          let yes : writes_for p (get_or order j 0) (get_or order found.0 0) ≡ true = subst (λ (x : ℕ). writes_for p (get_or order j 0) x ≡ true) (sym found.2) (base_writes p (get_or order j 0) w is) in
          absurd cc
    ]
    | read k lt writes value rest bases ↦ by (same_thread p (get_or order j 0) (get_or order k 0)) k refl lt writes value rest bases
  ] where
    by : (b : Bool) (k : ℕ) → same_thread p (get_or order j 0) (get_or order k 0) ≡ b → k < j → writes_for p (get_or order j 0) (get_or order k 0) ≡ true →
        value_read p run (get_or order j 0) ≡ value_of p (get_or order k 0) → ((i : ℕ) → k < i → i < j → writes_for p (get_or order j 0) (get_or order i 0) ≡ false) →
        ((store : ℕ) → base_store p (get_or order j 0) ≡ Some store → (i : ℕ) × (i < j) × (get_or order i 0 ≡ store)) → reads_candidate p run (get_or order j 0) ≡ true
    by true k t lt writes value rest bases = reads_own j k lj lt load writes t value rest bases
    by false k t lt writes value rest bases = reads_other p run (get_or order j 0) (get_or order k 0) writes t value

  reads : (load : ℕ) → is_load_at p load ≡ true → reads_candidate p run load ≡ true
  reads load h =
      let l = at_place Kept p run order one e load (is_load_at-below p load h) in
      subst (λ (x : ℕ). reads_candidate p run x ≡ true) l.2 (reads_one l.0 l.1 (subst (λ (x : ℕ). is_load_at p x ≡ true) (sym l.2) h))

  -- each value is 0 or that of a store
  few : (load : ℕ) → is_load_at p load ≡ true → value_read p run load ≤ store_count p
  few load h =
      let l = at_place Kept p run order one e load (is_load_at-below p load h) in
      subst (λ (x : ℕ). value_read p run x ≤ store_count p) l.2 (few_at l.0 l.1 (subst (λ (x : ℕ). is_load_at p x ≡ true) (sym l.2) h)) where
        few_at : (j : ℕ) → j < length order → is_load_at p (get_or order j 0) ≡ true → value_read p run (get_or order j 0) ≤ store_count p
        few_at j lj load = elim (reason Kept p run order one e j lj load) [
          | before own is value waits ↦ let le = value_of-le p own (base_own p (get_or order j 0) own is).is_store in omega (arith, le, value)
          | initial z none bases ↦ omega (arith, z)
          | read k lt writes value rest bases ↦ let le = value_of-le p (get_or order k 0) (store_at Kept p run order one e (get_or order j 0) (get_or order k 0) writes) in omega (arith, le, value)
        ]

  values : IsWithinLimits p → All (λ value. value < 2 ^ 32) run
  values limits k d lt =
      let whole = e.whole in
      let long = length-load_nodes p in
      let below : k < length (load_nodes p) = omega (arith, lt, whole, long) in
      let node = get_or (load_nodes p) k 0 in
      let found = slice_get-get_or (load_nodes p) k 0 below in
      let rank : rank_of p node ≡ k = load_nodes-rank p k node found in
      let le : value_read p run node ≤ store_count p = few node (load_nodes-is_load p k node found) in
      let same : get_or run k d ≡ value_read p run node = get_or_default run k d 0 lt ∙ ap (λ (r : ℕ). get_or run r 0) (sym rank) in
      let most = store_count-le p in
      let ops = limits.operations in
      omega (arith, le, same, most, ops)

  pub inside : IsWithinLimits p → IsInside p run
  inside limits = record {
    is_run = record { whole = e.whole; values = values limits };
    none_outside = find_no (λ load. not (reads_candidate p run load)) (load_nodes p)
        (λ load there. ap not (reads load (Contains-filter_back (is_load_at p) (all_nodes p) load there).1));
  }
