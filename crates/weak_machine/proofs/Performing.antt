-- Where a machine stands after it performed a node.
use Rattle.std.proofs.Common.{◌≡◌, ◌≢◌, ◌∙◌, ℕ, ◌+◌, ◌<◌, ◌≤◌, List, [], ◌∷◌, ◌++◌, Bool, true, false, not, ◌&&◌, ◌||◌, cond, map, length, get_or, set, Option, None, Some, refl, sym, ap, arith, inl, inr}
use Rattle.std.specs.Prelude.{◌==◌, IsTrue, nat_lt, replicate, slice_get}
use Rattle.std.specs.Option.{option_map, option_map_or}
use Rattle.std.proofs.lemmas.Bool.{cases_Bool, eqb-true, eq-eqb}
use Rattle.std.proofs.lemmas.List.{length-map}
use Rattle.std.proofs.lemmas.List.Elements.{All-get_or}
use Rattle.std.proofs.lemmas.Option.{slice_get-get_or}
use Rattle.orders.specs.Orders.{nodes_below}
use Rattle.test_lang.specs.declared.op.Op.{Op}
use Rattle.test_lang.specs.declared.op.Op.TheVariants.{Load, Store, Fence}
use Rattle.test_lang.specs.declared.step.Step.{Step}
use Rattle.test_lang.specs.declared.step.Step.TheVariants.{Perform}
use Rattle.test_lang.specs.declared.target.Target.TheVariants.{Weak}
use Rattle.test_lang.specs.declared.target.Fault.{Fault}
use Rattle.test_lang.specs.Program.{Program, nodes, all_nodes, op_count, op_at, first_node, thread_length, passes, HasWord, HasWordBelow, IsWithinLimits}
use Rattle.test_lang.specs.Values.{is_store, word_of, is_load_at, is_store_at, same_thread, one_word, word_at, value_of, rank_of, load_count, load_nodes}
use Rattle.test_lang.specs.Runs.{base, base_store}
use Rattle.test_lang.specs.Play.States.{State, has, value_given, value_now, value_before, loads_of}
use Rattle.test_lang.specs.Play.Faults.{is_stale, forwards_nothing}
use Rattle.test_lang.specs.Play.Machines.{base_waits, is_ready, value}
use Rattle.test_lang.specs.Play.Plays.{final}
use Rattle.test_lang.proofs.BaseStores.{base_store_own}
use Rattle.test_lang.proofs.ListTests.{and_true}
use Rattle.test_lang.proofs.Nodes.{is_load_at-op, is_store_at-op}
use Rattle.test_lang.proofs.Ranks.{is_store_at-below, length-load_nodes}
use Rattle.test_lang.proofs.Threads.{thread_end-le}
use Rattle.weak_machine.specs.NodeSets.{has_flag, no_flags}
use Rattle.weak_machine.specs.Standing.{Standing, Stands, state_of, base_is_left, found_in_memory, given_by, performing}
use Rattle.sim_core.proofs.BelowLists.{get_or-map_below, length-map_below, map-changed}
use Rattle.sim_core.proofs.NextOperations.{has-push}
use Rattle.sim_core.proofs.LoadsAfter.{loads-given, loads-opening}
use Rattle.sim_core.proofs.MemoryAfter.{now-store, now-other, before-store, before-other}
use Rattle.sim_core.proofs.PlaysOn.{final-push, IsPlay-push}
use Rattle.weak_machine.proofs.WeakPlays.{performed, perform-enabled, perform-after}

-- a store is one to its word

op_stores : (op : Op) → is_store op ≡ true → ◌≡◌ {A = Option Op} (Some op) (Some (Store (word_of op)))
op_stores (Load word) h = absurd cc
op_stores (Store word) h = refl
op_stores Fence h = absurd cc

node_stores : (found : Option (ℕ × Op)) → passes (λ x. is_store x.1) found ≡ true → option_map (λ y. y.1) found ≡ Some (Store (option_map_or word_of (option_map (λ y. y.1) found) 0))
node_stores None h = absurd cc
node_stores (Some x) h = op_stores x.1 h

store-at : (p : Program) (n : ℕ) → is_store_at p n ≡ true → op_at p n ≡ Some (Store (word_at p n))
store-at p n h = node_stores (slice_get (nodes p) n) h

-- the word of a node is one of the test

word_below : (words : ℕ) (op : Op) → 1 ≤ words → HasWordBelow words op → word_of op < words
word_below words (Load word) some h = h
word_below words (Store word) some h = h
word_below words Fence some h = omega (arith, some)

pub word-within : (p : Program) (n : ℕ) → IsWithinLimits p → n < op_count p → word_at p n < p.words
word-within p n limits lt =
    let node = get_or (nodes p) n (0, Fence) in
    let op : op_at p n ≡ Some (get_or (nodes p) n (0, Fence)).1 = ap (option_map (λ (x : ℕ × Op). x.1)) (slice_get-get_or (nodes p) n (0, Fence) lt) in
    let is : word_at p n ≡ word_of (get_or (nodes p) n (0, Fence)).1 = ap (λ (found : Option Op). option_map_or word_of found 0) op in
    let below = word_below p.words (get_or (nodes p) n (0, Fence)).1 limits.some_word (All-get_or (λ (x : ℕ × Op). HasWord p x.1) (nodes p) n (0, Fence) lt limits.words_of) in
    omega (arith, is, below)

-- What a machine has is that of its play.

module _ (m : Standing) (steps : List Step) (s : Stands m steps) where
  pub performed-is : (n : ℕ) → n < op_count m.test → has_flag m.performed n ≡ has (state_of m steps).effects n
  performed-is n lt = ap (λ (flags : List Bool). has_flag flags n) s.performed_are ∙ get_or-map_below (has (state_of m steps).effects) (op_count m.test) n false lt

  pub now-is : (word : ℕ) → word < m.test.words → get_or m.values word 0 ≡ value_now m.test (state_of m steps).effects word
  now-is word lt = ap (λ (values : List ℕ). get_or values word 0) s.values_are ∙ get_or-map_below (value_now m.test (state_of m steps).effects) m.test.words word 0 lt

  pub before-is : (word : ℕ) → word < m.test.words → get_or m.values_before word 0 ≡ value_before m.test (state_of m steps).effects word
  before-is word lt = ap (λ (values : List ℕ). get_or values word 0) s.values_before_are ∙ get_or-map_below (value_before m.test (state_of m steps).effects) m.test.words word 0 lt

  -- what a load gives
  base_is : (load : ℕ) (found : Option ℕ) → base_store m.test load ≡ found → option_map_or (λ store. not (has_flag m.performed store)) found false ≡ option_map_or (λ store. not (has (state_of m steps).effects store)) found false
  base_is load None e = refl
  base_is load (Some store) e =
      let own = base_store_own m.test load store e in
      let writes = (and_true (is_store_at m.test store && one_word m.test load store) (same_thread m.test load store && nat_lt store load) own).0 in
      let is_store = (and_true (is_store_at m.test store) (one_word m.test load store) writes).0 in
      ap not (performed-is store (is_store_at-below m.test store is_store))

  pub given-is : (load : ℕ) → load < op_count m.test → given_by m load ≡ value Weak m.fault m.test (state_of m steps) load
  given-is load lt =
      let word = word-within m.test load s.limits lt in
      ap (λ b. cond (b && not (forwards_nothing m.fault)) (base m.test load) (found_in_memory m load)) (base_is load (base_store m.test load) refl)
      ∙ ap (λ (v : ℕ). cond (base_waits m.test (state_of m steps).effects load && not (forwards_nothing m.fault)) (base m.test load) v)
      (ap (λ (v : ℕ). cond (is_stale m.fault load) v (get_or m.values (word_at m.test load) 0)) (before-is (word_at m.test load) word)
      ∙ ap (λ (v : ℕ). cond (is_stale m.fault load) (value_before m.test (state_of m steps).effects (word_at m.test load)) v) (now-is (word_at m.test load) word))

  -- a node is performed
  module _ (n : ℕ) (lt : n < op_count m.test) where
    abbrev after_effects : List ℕ
    after_effects = (state_of m steps).effects ++ n ∷ []

    flags_after : set m.performed n true ≡ map (has after_effects) (all_nodes m.test)
    flags_after =
        ap (λ (flags : List Bool). set flags n true) s.performed_are
        ∙ ap (set (map (has (state_of m steps).effects) (all_nodes m.test)) n) (sym (has-push (state_of m steps).effects n n ∙ or_yes (has (state_of m steps).effects n) (n == n) (eq-eqb n n refl)))
        ∙ sym (map-changed (has (state_of m steps).effects) (has after_effects) (op_count m.test) n lt
        (λ j below other. has-push (state_of m steps).effects n j ∙ or_no (has (state_of m steps).effects j) (n == j) (not_same j other))) where
          or_yes : (b c : Bool) → c ≡ true → (b || c) ≡ true
          or_yes true c e = refl
          or_yes false c e = e

          or_no : (b c : Bool) → c ≡ false → (b || c) ≡ b
          or_no true c e = refl
          or_no false c e = e

          not_same : (j : ℕ) → j ≢ n → (n == j) ≡ false
          not_same j other = elim (cases_Bool (n == j)) [ inl h ↦ absurd (other (sym (eqb-true n j h))) | inr h ↦ h ]

    now_after : (b : Bool) → is_store_at m.test n ≡ b → cond b (set m.values (word_at m.test n) (value_of m.test n)) m.values ≡ map (value_now m.test after_effects) (nodes_below m.test.words)
    now_after true e =
        ap (λ (values : List ℕ). set values (word_at m.test n) (value_of m.test n)) s.values_are
        ∙ sym (now-store m.test (state_of m steps).effects n (word_at m.test n) (store-at m.test n e) (word-within m.test n s.limits lt))
    now_after false e = s.values_are ∙ sym (now-other m.test (state_of m steps).effects n e)

    before_after : (b : Bool) → is_store_at m.test n ≡ b → cond b (set m.values_before (word_at m.test n) (get_or m.values (word_at m.test n) 0)) m.values_before ≡ map (value_before m.test after_effects) (nodes_below m.test.words)
    before_after true e =
        let word = word-within m.test n s.limits lt in
        ap (λ (values : List ℕ). set values (word_at m.test n) (get_or m.values (word_at m.test n) 0)) s.values_before_are
        ∙ ap (set (map (value_before m.test (state_of m steps).effects) (nodes_below m.test.words)) (word_at m.test n)) (now-is (word_at m.test n) word)
        ∙ sym (before-store m.test (state_of m steps).effects n (word_at m.test n) (store-at m.test n e) word)
    before_after false e = s.values_before_are ∙ sym (before-other m.test (state_of m steps).effects n e)

    loads_after : (b : Bool) → is_load_at m.test n ≡ b → cond b (set m.loads (rank_of m.test n) (given_by m n)) m.loads
        ≡ map (value_given (cond b ((n, value Weak m.fault m.test (state_of m steps) n) ∷ (state_of m steps).loads) (state_of m steps).loads)) (load_nodes m.test)
    loads_after true e =
        ap (λ (values : List ℕ). set values (rank_of m.test n) (given_by m n)) s.loads_are
        ∙ ap (set (map (value_given (state_of m steps).loads) (load_nodes m.test)) (rank_of m.test n)) (given-is n lt)
        ∙ sym (loads-given m.test (state_of m steps).loads n (value Weak m.fault m.test (state_of m steps) n) e)
    loads_after false e = s.loads_are

  pub stands-performed : (thread index : ℕ) → index < thread_length m.test thread → IsTrue (is_ready m.fault m.test (state_of m steps) (first_node m.test thread + index))
      → Stands (performing m (first_node m.test thread + index)) (steps ++ Perform thread index ∷ [])
  stands-performed thread index within ready =
      let n = first_node m.test thread + index in
      let end = thread_end-le m.test thread in
      let lt : n < op_count m.test = omega (arith, within, end) in
      let next : final Weak m.fault m.test (steps ++ Perform thread index ∷ []) ≡ performed m.fault m.test (state_of m steps) n =
      final-push Weak m.fault m.test steps (Perform thread index) ∙ perform-after m.fault m.test (state_of m steps) thread index within in
      record {
        limits = s.limits;
        is_play = IsPlay-push Weak m.fault m.test steps (Perform thread index) s.is_play (perform-enabled m.fault m.test (state_of m steps) thread index within ∙ ready);
        performed_are = flags_after n lt ∙ ap (λ (st : State). map (has st.effects) (all_nodes m.test)) (sym next);
        values_are = now_after n lt (is_store_at m.test n) refl ∙ ap (λ (st : State). map (value_now m.test st.effects) (nodes_below m.test.words)) (sym next);
        values_before_are = before_after n lt (is_store_at m.test n) refl ∙ ap (λ (st : State). map (value_before m.test st.effects) (nodes_below m.test.words)) (sym next);
        loads_are = loads_after n lt (is_load_at m.test n) refl ∙ ap (λ (st : State). loads_of m.test st) (sym next);
      }

-- Where it begins.

pub stands-opening : (p : Program) (fault : Fault) (flags : List Bool) (values values_before loads : List ℕ) → IsWithinLimits p → flags ≡ no_flags (op_count p) → values ≡ map (λ word. 0) (nodes_below p.words)
    → values_before ≡ map (λ word. 0) (nodes_below p.words) → loads ≡ replicate (load_count p) 0
    → Stands (record { test = p; fault = fault; performed = flags; values = values; values_before = values_before; loads = loads }) []
stands-opening p fault flags values values_before loads limits none zeros zeros_before unread = record {
  limits = limits;
  is_play = tt;
  performed_are = none;
  values_are = zeros;
  values_before_are = zeros_before;
  loads_are = unread ∙ sym (loads-opening p);
}

-- how many of each there are

pub values-long : (m : Standing) (steps : List Step) → Stands m steps → length m.values ≡ m.test.words
values-long m steps s = ap length s.values_are ∙ length-map_below (value_now m.test (state_of m steps).effects) m.test.words

pub values_before-long : (m : Standing) (steps : List Step) → Stands m steps → length m.values_before ≡ m.test.words
values_before-long m steps s = ap length s.values_before_are ∙ length-map_below (value_before m.test (state_of m steps).effects) m.test.words

pub loads-long : (m : Standing) (steps : List Step) → Stands m steps → length m.loads ≡ load_count m.test
loads-long m steps s = ap length s.loads_are ∙ length-map (load_nodes m.test) (value_given (state_of m steps).loads) ∙ length-load_nodes m.test

-- by its fields

performing-is : (m : Standing) (n : ℕ) (flags : List Bool) (values values_before loads : List ℕ) → flags ≡ (performing m n).performed → values ≡ (performing m n).values → values_before ≡ (performing m n).values_before → loads ≡ (performing m n).loads
    → ◌≡◌ {A = Standing} (record { test = m.test; fault = m.fault; performed = flags; values = values; values_before = values_before; loads = loads }) (performing m n)
performing-is m n flags values values_before loads a b c d =
    ap (λ (xs : List Bool). record { test = m.test; fault = m.fault; performed = xs; values = values; values_before = values_before; loads = loads }) a
    ∙ ap (λ (xs : List ℕ). record { test = m.test; fault = m.fault; performed = (performing m n).performed; values = xs; values_before = values_before; loads = loads }) b
    ∙ ap (λ (xs : List ℕ). record { test = m.test; fault = m.fault; performed = (performing m n).performed; values = (performing m n).values; values_before = xs; loads = loads }) c
    ∙ ap (λ (xs : List ℕ). record { test = m.test; fault = m.fault; performed = (performing m n).performed; values = (performing m n).values; values_before = (performing m n).values_before; loads = xs }) d

as_before : {X : Type 0} (b : Bool) (x y : X) → b ≡ false → y ≡ cond b x y
as_before true x y e = absurd cc
as_before false x y e = refl

changed : {X : Type 0} (b : Bool) (x y z : X) → b ≡ true → z ≡ x → z ≡ cond b x y
changed true x y z e is = is
changed false x y z e is = absurd cc

word_is : (p : Program) (n word : ℕ) (op : Op) → op_at p n ≡ Some op → word ≡ word_of op → word ≡ word_at p n
word_is p n word op e is = is ∙ sym (ap (λ (found : Option Op). option_map_or word_of found 0) e)

module _ (m : Standing) (n : ℕ) (flags : List Bool) (flags_are : flags ≡ set m.performed n true) where
  pub load-performed : (rank word value : ℕ) → op_at m.test n ≡ Some (Load word) → rank ≡ rank_of m.test n → value ≡ given_by m n
      → ◌≡◌ {A = Standing} (record { test = m.test; fault = m.fault; performed = flags; values = m.values; values_before = m.values_before; loads = set m.loads rank value }) (performing m n)
  load-performed rank word value e rank_is value_is =
      performing-is m n flags m.values m.values_before (set m.loads rank value) flags_are
      (as_before (is_store_at m.test n) (set m.values (word_at m.test n) (value_of m.test n)) m.values (is_store_at-op m.test n (Load word) e))
      (as_before (is_store_at m.test n) (set m.values_before (word_at m.test n) (get_or m.values (word_at m.test n) 0)) m.values_before (is_store_at-op m.test n (Load word) e))
      (changed (is_load_at m.test n) (set m.loads (rank_of m.test n) (given_by m n)) m.loads (set m.loads rank value) (is_load_at-op m.test n (Load word) e)
      (ap (λ (r : ℕ). set m.loads r value) rank_is ∙ ap (set m.loads (rank_of m.test n)) value_is))

  pub store-performed : (word value : ℕ) (values values_before : List ℕ) → op_at m.test n ≡ Some (Store word) → value ≡ value_of m.test n → values ≡ set m.values word value → values_before ≡ set m.values_before word (get_or m.values word 0)
      → ◌≡◌ {A = Standing} (record { test = m.test; fault = m.fault; performed = flags; values = values; values_before = values_before; loads = m.loads }) (performing m n)
  store-performed word value values values_before e value_is values_are before_are =
      let same = word_is m.test n word (Store word) e refl in
      performing-is m n flags values values_before m.loads flags_are
      (changed (is_store_at m.test n) (set m.values (word_at m.test n) (value_of m.test n)) m.values values (is_store_at-op m.test n (Store word) e)
      (values_are ∙ ap (λ (w : ℕ). set m.values w value) same ∙ ap (set m.values (word_at m.test n)) value_is))
      (changed (is_store_at m.test n) (set m.values_before (word_at m.test n) (get_or m.values (word_at m.test n) 0)) m.values_before values_before (is_store_at-op m.test n (Store word) e)
      (before_are ∙ ap (λ (w : ℕ). set m.values_before w (get_or m.values w 0)) same))
      (as_before (is_load_at m.test n) (set m.loads (rank_of m.test n) (given_by m n)) m.loads (is_load_at-op m.test n (Store word) e))

  pub fence-performed : op_at m.test n ≡ Some Fence
      → ◌≡◌ {A = Standing} (record { test = m.test; fault = m.fault; performed = flags; values = m.values; values_before = m.values_before; loads = m.loads }) (performing m n)
  fence-performed e =
      performing-is m n flags m.values m.values_before m.loads flags_are
      (as_before (is_store_at m.test n) (set m.values (word_at m.test n) (value_of m.test n)) m.values (is_store_at-op m.test n Fence e))
      (as_before (is_store_at m.test n) (set m.values_before (word_at m.test n) (get_or m.values (word_at m.test n) 0)) m.values_before (is_store_at-op m.test n Fence e))
      (as_before (is_load_at m.test n) (set m.loads (rank_of m.test n) (given_by m n)) m.loads (is_load_at-op m.test n Fence e))

-- what a load gives, by where it finds it

pub given-base : (m : Standing) (n : ℕ) → base_is_left m n ≡ true → forwards_nothing m.fault ≡ false → base m.test n ≡ given_by m n
given-base m n left some =
    sym (ap (λ b. cond (b && not (forwards_nothing m.fault)) (base m.test n) (found_in_memory m n)) left ∙ ap (λ b. cond (not b) (base m.test n) (found_in_memory m n)) some)

pub given-before : (m : Standing) (n : ℕ) → (base_is_left m n && not (forwards_nothing m.fault)) ≡ false → is_stale m.fault n ≡ true → get_or m.values_before (word_at m.test n) 0 ≡ given_by m n
given-before m n none stale =
    sym (ap (λ b. cond b (base m.test n) (found_in_memory m n)) none ∙ ap (λ b. cond b (get_or m.values_before (word_at m.test n) 0) (get_or m.values (word_at m.test n) 0)) stale)

pub given-now : (m : Standing) (n : ℕ) → (base_is_left m n && not (forwards_nothing m.fault)) ≡ false → is_stale m.fault n ≡ false → get_or m.values (word_at m.test n) 0 ≡ given_by m n
given-now m n none stale =
    sym (ap (λ b. cond b (base m.test n) (found_in_memory m n)) none ∙ ap (λ b. cond b (get_or m.values_before (word_at m.test n) 0) (get_or m.values (word_at m.test n) 0)) stale)
