-- A play of the sequential machine goes on with the next operation of a thread, and its run is what the threads found, thread by thread.
use Rattle.std.proofs.Common.{◌≡◌, ◌≢◌, ◌∙◌, ℕ, zero, suc, ◌+◌, ◌<◌, ◌≤◌, List, [], ◌∷◌, ◌++◌, Bool, true, false, cond, map, length, ⊎_elim, arith, refl, sym, ap, subst, Option, None, Some, append-nil}
use Rattle.std.specs.Prelude.{◌==◌, filter}
use Rattle.std.specs.List.{flat_map}
use Rattle.std.specs.Option.{option_map_or}
use Rattle.std.proofs.lemmas.Bool.{cases_eq, eq-eqb, lt-ltb, le-ltb, ne_eqb}
use Rattle.std.proofs.lemmas.List.{map-append, append_assoc}
use Rattle.std.proofs.lemmas.List.Elements.{filter-append}
use Rattle.std.proofs.lemmas.Option.{same_Some}
use Rattle.orders.specs.Orders.{nodes_below}
use Rattle.test_lang.specs.declared.op.Op.{Op}
use Rattle.test_lang.specs.declared.op.Op.TheVariants.{Load, Store, Fence}
use Rattle.test_lang.specs.declared.step.Step.TheVariants.{Execute}
use Rattle.test_lang.specs.declared.target.Target.TheVariants.{Sc}
use Rattle.test_lang.specs.declared.target.Fault.TheVariants as faults
use Rattle.test_lang.specs.Program.{Program, op_count, op_at, thread_at, first_node, thread_length}
use Rattle.test_lang.specs.Values.{word_of, is_store_to, is_load_at, load_nodes, value_of, word_at}
use Rattle.test_lang.specs.Play.States.{State, has, next_of, value_now, value_given}
use Rattle.test_lang.specs.Play.Machines.{may, is_enabled, value, waits_at, after_node, after}
use Rattle.test_lang.specs.Play.Plays.{IsDonePlay, final, run_of}
use Rattle.test_lang.proofs.Nodes.{is_load_at-op}
use Rattle.test_lang.proofs.Threads.{stands-thread_at, thread_at-stands, thread_at_some, first_node-suc, first_node_all}
use Rattle.test_lang.proofs.PlayLaws.Lasts.{all_true, has_true, true_has}
use Rattle.test_lang.proofs.PlayLaws.Moves.{coherent, sc_idle}
use Rattle.sim_core.specs.Positions.{StandsAt}
use Rattle.sim_core.proofs.BelowLists.{filter-flat_map, flat_below-suc}
use Rattle.sim_core.proofs.LoadsAfter.{given-here, given-other}
use Rattle.sim_core.proofs.MemoryAfter.{stores_to-op, value_now-store, value_now-other}
use Rattle.sim_core.proofs.NextOperations.{next_of-position, stands-next, stands-other, stands-opening}
use Rattle.sim_core.proofs.PlaysOn.{final-push, IsPlay-push}
use Rattle.shared_words.specs.Reached.{Progress, first_loads, HasNumbers, Reached, beginning, put, found_by, stored_by, does}

-- functions with another value at one number

pub put_same : {A : Type 0} (f : ℕ → A) (n : ℕ) (value : A) → put f n value n ≡ value
put_same f n value = ap (λ b. cond b value (f n)) (eq-eqb n n refl)

pub put_other : {A : Type 0} (f : ℕ → A) (n k : ℕ) (value : A) → k ≢ n → put f n value k ≡ f k
put_other f n k value apart = ap (λ b. cond b value (f k)) (ne_eqb k n apart)

-- at the beginning

pub begins : (p : Program) → Reached p beginning
begins p = record {
  steps = [];
  is_play = tt;
  numbers = record {
    done = λ thread lt. let none : first_node p thread ≡ first_node p thread + 0 = omega arith in subst (StandsAt p [] thread) none (stands-opening p thread lt);
    gave = λ thread lt. refl;
    words = λ word. refl;
  };
}

-- the loads among one operation more

first_loads-suc : (p : Program) (t n : ℕ) → first_loads p t (suc n) ≡ first_loads p t n ++ cond (is_load_at p (first_node p t + n)) ((first_node p t + n) ∷ []) []
first_loads-suc p t n =
    ap (filter (is_load_at p)) (map-append (λ index. first_node p t + index) (nodes_below n) (n ∷ []))
    ∙ filter-append (is_load_at p) (map (λ index. first_node p t + index) (nodes_below n)) ((first_node p t + n) ∷ [])

-- A thread does its next operation.
module _ (p : Program) (st : State) (s : Progress) (t : ℕ) (op : Op) (h : HasNumbers p st s) (within : t < length p.threads) (left : s.done t < thread_length p t) (is : op_at p (first_node p t + s.done t) ≡ Some op) where
  abbrev node : ℕ
  node = first_node p t + s.done t

  next_node : next_of p st t ≡ Some node
  next_node = next_of-position p st t node (h.done t within) ∙ ap (λ (b : Bool). cond b (Some node) None) (lt-ltb node (first_node p t + thread_length p t) (omega (arith, left)))

  enabled : is_enabled Sc faults.None p st (Execute t) ≡ true
  enabled = ap (λ (found : Option ℕ). option_map_or (may Sc faults.None p st (Execute t)) found false) next_node

  of_thread : thread_at p node ≡ Some t
  of_thread = stands-thread_at p node t record { in_range = within; from = omega arith; to = omega (arith, left) }

  abbrev executed_after : List ℕ
  executed_after = st.executed ++ node ∷ []

  abbrev loads_after : Bool → List (ℕ × ℕ)
  loads_after b = cond b ((node, value_now p st.effects (word_at p node)) ∷ st.loads) st.loads

  done_after : (u : ℕ) → u < length p.threads → StandsAt p executed_after u (first_node p u + put s.done t (s.done t + 1) u)
  done_after u lt = ⊎_elim
      (λ (same : u ≡ t).
      let one : node + 1 ≡ first_node p t + put s.done t (s.done t + 1) t = (let e = put_same s.done t (s.done t + 1) in omega (arith, e)) in
      subst (λ (v : ℕ). StandsAt p executed_after v (first_node p v + put s.done t (s.done t + 1) v)) (sym same)
      (subst (StandsAt p executed_after t) one (stands-next p st.executed t node (h.done t within) (omega (arith, left)))))
      (λ (apart : u ≢ t).
      subst (λ (n : ℕ). StandsAt p executed_after u (first_node p u + n)) (sym (put_other s.done t u (s.done t + 1) apart))
      (stands-other p st.executed u (first_node p u + s.done u) node (h.done u lt) (λ (at : thread_at p node ≡ Some u). apart (same_Some u t (sym at ∙ of_thread)))))
      (cases_eq u t)

  -- what earlier loads gave stays

  earlier : (u i : ℕ) → u < length p.threads → i < s.done u → node ≢ first_node p u + i
  earlier u i lt before same =
      let stood = h.done u lt in
      let to = stood.to in
      let at : thread_at p (first_node p u + i) ≡ Some u = stands-thread_at p (first_node p u + i) u record { in_range = lt; from = omega arith; to = omega (arith, before, to) } in
      let was : has st.executed (first_node p u + i) ≡ true = stood.executed_are (first_node p u + i) at ∙ lt-ltb (first_node p u + i) (first_node p u + s.done u) (omega (arith, before)) in
      let wasnt : has st.executed node ≡ false = (h.done t within).executed_are node of_thread ∙ le-ltb node node (omega arith) in
      let is_now : has st.executed (first_node p u + i) ≡ false = ap (has st.executed) (sym same) ∙ wasnt in
      absurd (cc (was, is_now))

  kept_one : (b : Bool) (u i : ℕ) → u < length p.threads → i < s.done u → value_given (loads_after b) (first_node p u + i) ≡ value_given st.loads (first_node p u + i)
  kept_one false u i lt before = refl
  kept_one true u i lt before = given-other p st.loads node (value_now p st.effects (word_at p node)) (first_node p u + i) (earlier u i lt before)

  one_value : (f g : ℕ → ℕ) (m : ℕ) → f m ≡ g m → (b : Bool) → map f (cond b (m ∷ []) []) ≡ map g (cond b (m ∷ []) [])
  one_value f g m same true = ap (λ (v : ℕ). v ∷ []) same
  one_value f g m same false = refl

  values_kept : (b : Bool) (u n : ℕ) → u < length p.threads → n ≤ s.done u → map (value_given (loads_after b)) (first_loads p u n) ≡ map (value_given st.loads) (first_loads p u n)
  values_kept b u zero lt few = refl
  values_kept b u (suc n) lt few =
      let f = value_given (loads_after b) in
      let g = value_given st.loads in
      let m = first_node p u + n in
      let last = cond (is_load_at p m) (m ∷ []) [] in
      ap (map f) (first_loads-suc p u n)
      ∙ map-append f (first_loads p u n) last
      ∙ ap (λ (vs : List ℕ). vs ++ map f last) (values_kept b u n lt (omega (arith, few)))
      ∙ ap (λ (vs : List ℕ). map g (first_loads p u n) ++ vs) (one_value f g m (kept_one b u n lt (omega (arith, few))) (is_load_at p m))
      ∙ sym (map-append g (first_loads p u n) last)
      ∙ sym (ap (map g) (first_loads-suc p u n))

  -- what the operation finds
  finds : (o : Op) → op_at p node ≡ Some o → map (value_given (loads_after (is_load_at p node))) (cond (is_load_at p node) (node ∷ []) []) ≡ found_by o s.now
  finds (Load x) e =
      let word : word_at p node ≡ x = ap (λ (found : Option Op). option_map_or word_of found 0) e in
      ap (λ b. map (value_given (loads_after b)) (cond b (node ∷ []) [])) (is_load_at-op p node (Load x) e)
      ∙ ap (λ (v : ℕ). v ∷ []) (given-here p st.loads node (value_now p st.effects (word_at p node)) ∙ ap (value_now p st.effects) word ∙ sym (h.words x))
  finds (Store x) e = ap (λ b. map (value_given (loads_after b)) (cond b (node ∷ []) [])) (is_load_at-op p node (Store x) e)
  finds Fence e = ap (λ b. map (value_given (loads_after b)) (cond b (node ∷ []) [])) (is_load_at-op p node Fence e)

  gave_after : (u : ℕ) → u < length p.threads
      → (does p s t op).values u ≡ map (value_given (loads_after (is_load_at p node))) (first_loads p u (put s.done t (s.done t + 1) u))
  gave_after u lt = ⊎_elim
      (λ (same : u ≡ t). subst (λ (v : ℕ). (does p s t op).values v ≡ map (value_given (loads_after (is_load_at p node))) (first_loads p v (put s.done t (s.done t + 1) v))) (sym same) mine)
      (λ (apart : u ≢ t).
      put_other s.values t u (s.values t ++ found_by op s.now) apart
      ∙ h.gave u lt
      ∙ sym (values_kept (is_load_at p node) u (s.done u) lt (omega arith))
      ∙ ap (λ (n : ℕ). map (value_given (loads_after (is_load_at p node))) (first_loads p u n)) (sym (put_other s.done t u (s.done t + 1) apart)))
      (cases_eq u t) where
        one : suc (s.done t) ≡ put s.done t (s.done t + 1) t
        one = let e = put_same s.done t (s.done t + 1) in omega (arith, e)

        mine : (does p s t op).values t ≡ map (value_given (loads_after (is_load_at p node))) (first_loads p t (put s.done t (s.done t + 1) t))
        mine =
            let last = cond (is_load_at p node) (node ∷ []) [] in
            let g = value_given (loads_after (is_load_at p node)) in
            put_same s.values t (s.values t ++ found_by op s.now)
            ∙ ap (λ (vs : List ℕ). vs ++ found_by op s.now) (h.gave t within ∙ sym (values_kept (is_load_at p node) t (s.done t) within (omega arith)))
            ∙ ap (λ (vs : List ℕ). map g (first_loads p t (s.done t)) ++ vs) (sym (finds op is))
            ∙ sym (map-append g (first_loads p t (s.done t)) last)
            ∙ sym (ap (map g) (first_loads-suc p t (s.done t)))
            ∙ ap (λ (n : ℕ). map g (first_loads p t n)) one

  words_kept : (x : ℕ) (o : Op) → op_at p node ≡ Some o → is_store_to x o ≡ false → s.now x ≡ value_now p (st.effects ++ node ∷ []) x
  words_kept x o e other = h.words x ∙ sym (value_now-other p st.effects node x (stores_to-op p x node o e ∙ other))

  words_after : (o : Op) → op_at p node ≡ Some o → (x : ℕ) → stored_by o (value_of p node) s.now x ≡ value_now p (st.effects ++ node ∷ []) x
  words_after (Load y) e x = words_kept x (Load y) e refl
  words_after Fence e x = words_kept x Fence e refl
  words_after (Store y) e x = ⊎_elim
      (λ (same : x ≡ y).
      let here : (x == y) ≡ true = eq-eqb x y same in
      ap (λ b. cond b (value_of p node) (s.now x)) here ∙ sym (value_now-store p st.effects node x (stores_to-op p x node (Store y) e ∙ here)))
      (λ (apart : x ≢ y). put_other s.now y x (value_of p node) apart ∙ words_kept x (Store y) e (ne_eqb x y apart))
      (cases_eq x y)

  numbers_after : (b : Bool) → waits_at Sc faults.None p node ≡ b → b ≡ false
      → HasNumbers p record { executed = executed_after; effects = cond b st.effects (st.effects ++ node ∷ []); loads = loads_after (is_load_at p node) } (does p s t op)
  numbers_after true e idle = absurd cc
  numbers_after false e idle = record { done = done_after; gave = gave_after; words = words_after op is }

  pub numbers_next : HasNumbers p (after Sc faults.None p st (Execute t)) (does p s t op)
  numbers_next =
      subst (λ (found : Option ℕ). HasNumbers p (after_node Sc faults.None p st (Execute t) found) (does p s t op)) (sym next_node)
      (numbers_after (waits_at Sc faults.None p node) refl (sc_idle faults.None p node))

pub goes_on : (p : Program) (s : Progress) (t : ℕ) (op : Op) → t < length p.threads → s.done t < thread_length p t → op_at p (first_node p t + s.done t) ≡ Some op → Reached p s → Reached p (does p s t op)
goes_on p s t op within left is r = record {
  steps = r.steps ++ Execute t ∷ [];
  is_play = IsPlay-push Sc faults.None p r.steps (Execute t) r.is_play (enabled p (final Sc faults.None p r.steps) s t op r.numbers within left is);
  numbers = subst (λ st. HasNumbers p st (does p s t op)) (sym (final-push Sc faults.None p r.steps (Execute t))) (numbers_next p (final Sc faults.None p r.steps) s t op r.numbers within left is);
}

-- the nodes of all threads, thread by thread

below_plus : (a b : ℕ) → nodes_below (a + b) ≡ nodes_below a ++ map (λ i. a + i) (nodes_below b)
below_plus a zero = (let none : a + 0 ≡ a = omega arith in ap nodes_below none) ∙ sym (append-nil (nodes_below a))
below_plus a (suc b) =
    let more : a + suc b ≡ suc (a + b) = omega arith in
    ap nodes_below more
    ∙ ap (λ (xs : List ℕ). xs ++ (a + b) ∷ []) (below_plus a b)
    ∙ append_assoc (nodes_below a) (map (λ i. a + i) (nodes_below b)) ((a + b) ∷ [])
    ∙ ap (λ (xs : List ℕ). nodes_below a ++ xs) (sym (map-append (λ i. a + i) (nodes_below b) (b ∷ [])))

threads_nodes : (p : Program) (n : ℕ) → nodes_below (first_node p n) ≡ flat_map (λ t. map (λ index. first_node p t + index) (nodes_below (thread_length p t))) (nodes_below n)
threads_nodes p zero = refl
threads_nodes p (suc n) =
    let each : ℕ → List ℕ = λ t. map (λ index. first_node p t + index) (nodes_below (thread_length p t)) in
    ap nodes_below (first_node-suc p n)
    ∙ below_plus (first_node p n) (thread_length p n)
    ∙ ap (λ (xs : List ℕ). xs ++ each n) (threads_nodes p n)
    ∙ sym (flat_below-suc each n)

loads_in_a_row : (p : Program) → load_nodes p ≡ flat_map (λ t. first_loads p t (thread_length p t)) (nodes_below (length p.threads))
loads_in_a_row p =
    let each : ℕ → List ℕ = λ t. map (λ index. first_node p t + index) (nodes_below (thread_length p t)) in
    ap (λ (n : ℕ). filter (is_load_at p) (nodes_below n)) (sym (first_node_all p (length p.threads) (omega arith)))
    ∙ ap (filter (is_load_at p)) (threads_nodes p (length p.threads))
    ∙ filter-flat_map (is_load_at p) each (nodes_below (length p.threads))

map-flat : (f : ℕ → ℕ) (g : ℕ → List ℕ) (n : ℕ) → map f (flat_map g (nodes_below n)) ≡ flat_map (λ k. map f (g k)) (nodes_below n)
map-flat f g zero = refl
map-flat f g (suc n) =
    ap (map f) (flat_below-suc g n)
    ∙ map-append f (flat_map g (nodes_below n)) (g n)
    ∙ ap (λ (xs : List ℕ). xs ++ map f (g n)) (map-flat f g n)
    ∙ sym (flat_below-suc (λ k. map f (g k)) n)

flat-same : (f g : ℕ → List ℕ) (n : ℕ) → ((k : ℕ) → k < n → f k ≡ g k) → flat_map f (nodes_below n) ≡ flat_map g (nodes_below n)
flat-same f g zero same = refl
flat-same f g (suc n) same =
    flat_below-suc f n
    ∙ ap (λ (xs : List ℕ). xs ++ f n) (flat-same f g n (λ k lt. same k (omega (arith, lt))))
    ∙ ap (λ (xs : List ℕ). flat_map g (nodes_below n) ++ xs) (same n (omega arith))
    ∙ sym (flat_below-suc g n)

-- Where all is done.
module _ (p : Program) (s : Progress) (all : (t : ℕ) → t < length p.threads → s.done t ≡ thread_length p t) (r : Reached p s) where
  abbrev end : State
  end = final Sc faults.None p r.steps

  all_took : (n : ℕ) → n < op_count p → has end.effects n ≡ true
  all_took n lt =
      let t = thread_at_some p n lt in
      let stands = thread_at-stands p n t.0 t.1 in
      let to = stands.to in
      let whole = all t.0 stands.in_range in
      let executed : has end.executed n ≡ true = (r.numbers.done t.0 stands.in_range).executed_are n t.1 ∙ lt-ltb n (first_node p t.0 + s.done t.0) (omega (arith, to, whole)) in
      true_has end.effects n ((coherent Sc faults.None p r.steps r.is_play).direct n (has_true end.executed n executed) (sc_idle faults.None p n))

  pub is_done_play : IsDonePlay Sc faults.None p r.steps
  is_done_play = record { is_play = r.is_play; done = all_true (has end.effects) (op_count p) all_took }

  pub run_is : run_of Sc faults.None p r.steps ≡ flat_map s.values (nodes_below (length p.threads))
  run_is =
      ap (map (value_given end.loads)) (loads_in_a_row p)
      ∙ map-flat (value_given end.loads) (λ t. first_loads p t (thread_length p t)) (length p.threads)
      ∙ sym (flat-same s.values (λ t. map (value_given end.loads) (first_loads p t (thread_length p t))) (length p.threads)
      (λ t lt. r.numbers.gave t lt ∙ ap (λ (n : ℕ). map (value_given end.loads) (first_loads p t n)) (all t lt)))
