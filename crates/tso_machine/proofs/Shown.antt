-- What a machine's fields tell of the steps that are enabled, and of loads.
use Rattle.std.proofs.Common.{◌≡◌, ◌∙◌, ℕ, zero, suc, ◌+◌, ◌-◌, ◌<◌, ◌≤◌, ◌⊎◌, List, [], ◌∷◌, ◌++◌, Bool, true, false, not, ◌||◌, cond, map, length, get_or, Contains, refl, sym, ap, subst, arith, inl, inr, Option, None, Some}
use Rattle.std.specs.Prelude.{◌==◌, filter, slice_get}
use Rattle.std.specs.List.{last_or}
use Rattle.std.specs.Option.{option_map, option_map_or}
use Rattle.std.proofs.lemmas.Bool.{ne_eqb}
use Rattle.std.proofs.lemmas.List.{length-append, length-map}
use Rattle.std.proofs.lemmas.Option.{same_Some, slice_get-map}
use Rattle.orders.specs.Orders.{nodes_below}
use Rattle.orders.proofs.Below.{length-below}
use Rattle.orders.proofs.Members.{Contains-head, Contains-tail, Contains-filter_back}
use Rattle.test_lang.specs.declared.op.Op.{Op}
use Rattle.test_lang.specs.declared.op.Op.TheVariants as ops
use Rattle.test_lang.specs.declared.op.Action.{Action}
use Rattle.test_lang.specs.declared.op.Action.TheVariants.{Load}
use Rattle.test_lang.specs.declared.step.Step.{Step}
use Rattle.test_lang.specs.declared.step.Step.TheVariants.{Execute, Drain, Perform}
use Rattle.test_lang.specs.declared.target.Target.{Target}
use Rattle.test_lang.specs.declared.target.Target.TheVariants.{Sc, Tso, Pso, Weak}
use Rattle.test_lang.specs.declared.target.Fault.{Fault}
use Rattle.test_lang.specs.Actions.{is_full_fence}
use Rattle.test_lang.specs.Program.{Program, action_at, at_action, nodes, passes}
use Rattle.test_lang.specs.Values.{is_store, is_store_at, is_store_to, value_of, word_at, word_of}
use Rattle.test_lang.specs.Play.States.{State, is_of_thread, next_of, buffer, stores_to, value_now, value_before}
use Rattle.test_lang.specs.Play.Faults.{drains_any, forwards_nothing, frees_fences, is_stale}
use Rattle.test_lang.specs.Play.Machines.{buffered, forwarded, is_enabled, is_nil, is_unfenced, may, memory, value}
use Rattle.test_lang.specs.Play.Choices.{steps_of}
use Rattle.test_lang.proofs.ActionNodes.{op_at-action}
use Rattle.test_lang.proofs.PlayLaws.Firsts.{next_is}
use Rattle.test_lang.proofs.PlayLaws.Moves.{in_buffer, slice_get-Contains}
use Rattle.sim_core.specs.Setup.{is_enabled_after, state_after}
use Rattle.tso_machine.specs.declared.playing.StoreOrder.{StoreOrder}
use Rattle.tso_machine.specs.declared.playing.StoreOrder.TheVariants.{Total, Partial}
use Rattle.tso_machine.specs.Moments.{HasBuffers, Moment, StandsBehind, target_of}
use Rattle.tso_machine.specs.Moves.{IsNext, drain_places, thread_choices}
use Rattle.tso_machine.proofs.Bounds.{buffer_at, value_at, value_before_at}
use Rattle.tso_machine.proofs.ChoiceLists.{chosen_are, execute_by, may_execute}
use Rattle.tso_machine.proofs.Drains.{drain_within, drains, drains-any, drains-first, drains-none, drains_are, may_leave}
use Rattle.tso_machine.proofs.Forwarding.{buffered_are, forwarded_last}
use Rattle.tso_machine.proofs.ListChanges.{below_at}
use Rattle.tso_machine.proofs.Steps.{at_action-of, enabled_place}
use Rattle.tso_machine.proofs.Turns.{performs_none, stands_of}

-- the order of a machine with buffers
pub order_of : (target : Target) → HasBuffers target → (order : StoreOrder) × (target ≡ target_of order)
order_of Sc h = absurd h
order_of Tso h = (Total, refl)
order_of Pso h = (Partial, refl)
order_of Weak h = absurd h

pub buffers_of : (order : StoreOrder) → HasBuffers (target_of order)
buffers_of Total = tt
buffers_of Partial = tt

-- a thread that isn't there has nothing

none_there : (p : Program) (t n : ℕ) → length p.threads ≤ t → is_of_thread p t n ≡ true → ⊥
none_there p t n past h = let lt = (stands_of p t n h).in_range in omega (arith, lt, past)

no_next : (target : Target) (fault : Fault) (p : Program) (st : State) (t : ℕ) (found : Option ℕ) → length p.threads ≤ t → next_of p st t ≡ found → false ≡ option_map_or (may target fault p st (Execute t)) found false
no_next target fault p st t None past e = refl
no_next target fault p st t (Some n) past e = absurd (none_there p t n past (next_is p st t n e).thread_is)

pub executes_none : (target : Target) (fault : Fault) (p : Program) (st : State) (t : ℕ) → length p.threads ≤ t → false ≡ is_enabled target fault p st (Execute t)
executes_none target fault p st t past = no_next target fault p st t (next_of p st t) past refl

no_entry : (target : Target) (fault : Fault) (p : Program) (st : State) (t place : ℕ) (found : Option ℕ) → length p.threads ≤ t → slice_get (buffer p st t) place ≡ found
    → false ≡ option_map_or (may target fault p st (Drain t place)) found false
no_entry target fault p st t place None past e = refl
no_entry target fault p st t place (Some n) past e = absurd (none_there p t n past (in_buffer p st t n (slice_get-Contains (buffer p st t) place n e)).thread_is)

pub drains_nothing : (target : Target) (fault : Fault) (p : Program) (st : State) (t place : ℕ) → length p.threads ≤ t → false ≡ is_enabled target fault p st (Drain t place)
drains_nothing target fault p st t place past = no_entry target fault p st t place (slice_get (buffer p st t) place) past refl

pub performs_nothing : (target : Target) (fault : Fault) (p : Program) (st : State) (t k : ℕ) → HasBuffers target → false ≡ is_enabled target fault p st (Perform t k)
performs_nothing Sc fault p st t k h = absurd h
performs_nothing Tso fault p st t k h = sym (performs_none Tso fault p st t k tt)
performs_nothing Pso fault p st t k h = sym (performs_none Pso fault p st t k tt)
performs_nothing Weak fault p st t k h = absurd h

-- fences

nil_is : (xs : List ℕ) → is_nil xs ≡ (length xs == 0)
nil_is [] = refl
nil_is (x ∷ xs) = sym (ne_eqb (suc (length xs)) 0 (λ is. omega (arith, is)))

pub or_true_left : (a b : Bool) → a ≡ true → (a || b) ≡ true
or_true_left true b e = refl
or_true_left false b e = absurd cc

pub or_false_left : (a b : Bool) → a ≡ false → (a || b) ≡ b
or_false_left true b e = absurd cc
or_false_left false b e = refl

pub or_true_right : (a : Bool) → (a || true) ≡ true
or_true_right true = refl
or_true_right false = refl

pub or_false_right : (a b : Bool) → b ≡ false → (a || b) ≡ a
or_false_right true b e = refl
or_false_right false b e = e

module _ (fault : Fault) (p : Program) (st : State) (t n : ℕ) (action : Action) (is : action_at p n ≡ Some action) where
  full : at_action (λ node. is_full_fence node.1) p n ≡ is_full_fence action
  full = at_action-of is_full_fence p n action is

  pub unfenced_empty : is_full_fence action ≡ true → frees_fences fault ≡ false → (xs : List ℕ) → xs ≡ buffer p st t → (length xs == 0) ≡ is_unfenced fault p st t n
  unfenced_empty fence freed xs same =
      sym (nil_is xs) ∙ ap is_nil same
      ∙ sym (or_false_left (not (at_action (λ node. is_full_fence node.1) p n) || frees_fences fault) (is_nil (buffer p st t))
      (or_false_left (not (at_action (λ node. is_full_fence node.1) p n)) (frees_fences fault) (ap not (full ∙ fence)) ∙ freed))

module _ (m : Moment) (order : StoreOrder) (e : m.setup.target ≡ target_of order) (steps : List Step) (s : StandsBehind m steps) where
  -- whether a step is enabled
  as_order : (step : Step) → is_enabled_after m.setup steps step ≡ is_enabled (target_of order) m.setup.fault m.setup.test (state_after m.setup steps) step
  as_order step = ap (λ (target : Target). is_enabled target m.setup.fault m.setup.test (state_after m.setup steps) step) e

  pub executes_by : (t n : ℕ) → Some n ≡ next_of m.setup.test (state_after m.setup steps) t → is_enabled_after m.setup steps (Execute t) ≡ is_unfenced m.setup.fault m.setup.test (state_after m.setup steps) t n
  executes_by t n next =
      as_order (Execute t)
      ∙ execute_by order m.setup.fault m.setup.test (state_after m.setup steps) t
      ∙ ap (may_execute m.setup.fault m.setup.test (buffer m.setup.test (state_after m.setup steps) t)) (sym next)

  pub executes_not : (t : ℕ) → None ≡ next_of m.setup.test (state_after m.setup steps) t → is_enabled_after m.setup steps (Execute t) ≡ false
  executes_not t next =
      as_order (Execute t)
      ∙ execute_by order m.setup.fault m.setup.test (state_after m.setup steps) t
      ∙ ap (may_execute m.setup.fault m.setup.test (buffer m.setup.test (state_after m.setup steps) t)) (sym next)

  pub drain_shown : (t place : ℕ) → t < length m.setup.test.threads → place < length (get_or m.buffers t [])
      → is_enabled_after m.setup steps (Drain t place) ≡ may_leave order m.setup.fault m.setup.test (get_or m.buffers t []) place
  drain_shown t place lt within =
      let same = buffer_at m order e steps s t lt in
      as_order (Drain t place)
      ∙ drain_within order m.setup.fault m.setup.test (state_after m.setup steps) t place (subst (λ (xs : List ℕ). place < length xs) same within)
      ∙ ap (λ (xs : List ℕ). may_leave order m.setup.fault m.setup.test xs place) (sym same)

  pub drain_none : (t place : ℕ) → t < length m.setup.test.threads → length (get_or m.buffers t []) ≤ place → false ≡ is_enabled_after m.setup steps (Drain t place)
  drain_none t place lt past = at (is_enabled_after m.setup steps (Drain t place)) refl where
    at : (b : Bool) → is_enabled_after m.setup steps (Drain t place) ≡ b → false ≡ is_enabled_after m.setup steps (Drain t place)
    at true h =
        let within = enabled_place m.setup.target m.setup.fault m.setup.test (state_after m.setup steps) t place h in
        let same = ap length (buffer_at m order e steps s t lt) in
        absurd (omega (arith, within, same, past))
    at false h = sym h

  -- the places that can be drained
  pub drains_shown : (t : ℕ) → t < length m.setup.test.threads → drain_places m.setup steps t ≡ drains order m.setup.fault m.setup.test (get_or m.buffers t [])
  drains_shown t lt =
      ap (λ (target : Target). filter (λ place. is_enabled target m.setup.fault m.setup.test (state_after m.setup steps) (Drain t place))
      (nodes_below (length (buffer m.setup.test (state_after m.setup steps) t)))) e
      ∙ drains_are order m.setup.fault m.setup.test (state_after m.setup steps) t
      ∙ ap (drains order m.setup.fault m.setup.test) (sym (buffer_at m order e steps s t lt))

  -- a thread's choices: its next operation where it can be executed, and those places
  pub choices_shown : (t : ℕ) → thread_choices m.setup steps t ≡ cond (is_enabled_after m.setup steps (Execute t)) (Execute t ∷ []) [] ++ map (Drain t) (drain_places m.setup steps t)
  choices_shown t =
      let st : State = state_after m.setup steps in
      let fault = m.setup.fault in
      let p = m.setup.test in
      ap (λ (target : Target). filter (is_enabled target fault p st) (steps_of p st t)) e
      ∙ chosen_are order fault p st t
      ∙ ap (λ b. cond b (Execute t ∷ []) [] ++ map (Drain t) (drains order fault p (buffer p st t))) (sym (as_order (Execute t) ∙ execute_by order fault p st t))
      ∙ ap (λ (places : List ℕ). cond (is_enabled_after m.setup steps (Execute t)) (Execute t ∷ []) [] ++ map (Drain t) places)
      (sym (ap (λ (target : Target). filter (λ place. is_enabled target fault p st (Drain t place)) (nodes_below (length (buffer p st t)))) e ∙ drains_are order fault p st t))

  pub count_shown : (t : ℕ) (b : Bool) (n : ℕ) → b ≡ is_enabled_after m.setup steps (Execute t) → n ≡ length (drain_places m.setup steps t) → cond b 1 0 + n ≡ length (thread_choices m.setup steps t)
  count_shown t b n execute drains =
      ap (λ (c : Bool). cond c 1 0 + n) execute
      ∙ ap (λ (k : ℕ). cond (is_enabled_after m.setup steps (Execute t)) 1 0 + k) (drains ∙ sym (length-map (drain_places m.setup steps t) (Drain t)))
      ∙ ap (λ (k : ℕ). k + length (map (Drain t) (drain_places m.setup steps t))) (one (is_enabled_after m.setup steps (Execute t)))
      ∙ sym (length-append (cond (is_enabled_after m.setup steps (Execute t)) (Execute t ∷ []) []) (map (Drain t) (drain_places m.setup steps t)))
      ∙ ap length (sym (choices_shown t)) where
        one : (c : Bool) → cond c 1 0 ≡ length (cond c (Execute t ∷ []) [])
        one true = refl
        one false = refl

  pub later_choice : (t k place : ℕ) (b : Bool) → b ≡ is_enabled_after m.setup steps (Execute t) → cond b 1 0 ≤ k → slice_get (drain_places m.setup steps t) (k - cond b 1 0) ≡ Some place
      → slice_get (thread_choices m.setup steps t) k ≡ Some (Drain t place)
  later_choice t k place b execute le found =
      ap (λ (xs : List Step). slice_get xs k) (choices_shown t)
      ∙ ap (λ (c : Bool). slice_get (cond c (Execute t ∷ []) [] ++ map (Drain t) (drain_places m.setup steps t)) k) (sym execute)
      ∙ behind b k le (slice_get-map (Drain t) (drain_places m.setup steps t) (k - cond b 1 0) ∙ ap (option_map (Drain t)) found) where
        behind : (c : Bool) (k : ℕ) → cond c 1 0 ≤ k → slice_get (map (Drain t) (drain_places m.setup steps t)) (k - cond c 1 0) ≡ Some (Drain t place)
            → slice_get (cond c (Execute t ∷ []) [] ++ map (Drain t) (drain_places m.setup steps t)) k ≡ Some (Drain t place)
        behind true zero le found = absurd (omega (arith, le))
        behind true (suc k) le found = let less : suc k - 1 ≡ k = omega arith in ap (slice_get (map (Drain t) (drain_places m.setup steps t))) (sym less) ∙ found
        behind false k le found = let same : k - 0 ≡ k = omega arith in ap (slice_get (map (Drain t) (drain_places m.setup steps t))) (sym same) ∙ found

  pub few_left : (t k : ℕ) (b : Bool) → b ≡ is_enabled_after m.setup steps (Execute t) → cond b 1 0 ≤ k → k < length (thread_choices m.setup steps t) → k - cond b 1 0 < length (drain_places m.setup steps t)
  few_left t k b execute le lt =
      let count = count_shown t b (length (drain_places m.setup steps t)) execute refl in
      let less = minus k (cond b 1 0) le in
      omega (arith, count, less, lt) where
        minus : (a c : ℕ) → c ≤ a → (a - c) + c ≡ a
        minus a c le = omega (arith, le)

  -- loads

  value_by : (load : ℕ) → value m.setup.target m.setup.fault m.setup.test (state_after m.setup steps) load ≡ cond (forwards_nothing m.setup.fault) (memory m.setup.fault m.setup.test (state_after m.setup steps) load)
      (forwarded m.setup.test (buffered m.setup.test (state_after m.setup steps) load) (memory m.setup.fault m.setup.test (state_after m.setup steps) load))
  value_by load = ap (λ (target : Target). value target m.setup.fault m.setup.test (state_after m.setup steps) load) e ∙ by order where
    by : (order : StoreOrder) → value (target_of order) m.setup.fault m.setup.test (state_after m.setup steps) load ≡ cond (forwards_nothing m.setup.fault) (memory m.setup.fault m.setup.test (state_after m.setup steps) load)
        (forwarded m.setup.test (buffered m.setup.test (state_after m.setup steps) load) (memory m.setup.fault m.setup.test (state_after m.setup steps) load))
    by Total = refl
    by Partial = refl

  pub value_found : (t load word : ℕ) (found : Option ℕ) → t < length m.setup.test.threads → IsNext m t load → action_at m.setup.test load ≡ Some (Load word) → forwards_nothing m.setup.fault ≡ false
      → found ≡ last_or None (filter (stores_to m.setup.test word) (get_or m.buffers t []))
      → option_map_or (value_of m.setup.test) found (memory m.setup.fault m.setup.test (state_after m.setup steps) load) ≡ value m.setup.target m.setup.fault m.setup.test (state_after m.setup steps) load
  value_found t load word found lt next is forwards last =
      let p = m.setup.test in
      let st : State = state_after m.setup steps in
      let other = memory m.setup.fault p st load in
      let own = (next_is p st t load (next steps s)).thread_is in
      let stores : buffered p st load ≡ filter (stores_to p word) (get_or m.buffers t []) =
      buffered_are p st t load word own (op_at-action p load (Load word) is) ∙ ap (filter (stores_to p word)) (sym (buffer_at m order e steps s t lt)) in
      ap (λ (o : Option ℕ). option_map_or (value_of p) o other) last
      ∙ sym (value_by load
      ∙ ap (λ b. cond b other (forwarded p (buffered p st load) other)) forwards
      ∙ ap (λ (xs : List ℕ). forwarded p xs other) stores
      ∙ forwarded_last p (filter (stores_to p word) (get_or m.buffers t [])) other)

  -- memory

  word_is : (load word : ℕ) → action_at m.setup.test load ≡ Some (Load word) → word_at m.setup.test load ≡ word
  word_is load word is = ap (λ (o : Option Op). option_map_or word_of o 0) (op_at-action m.setup.test load (Load word) is)

  pub memory_now : (load word : ℕ) → word < m.setup.test.words → action_at m.setup.test load ≡ Some (Load word) → is_stale m.setup.fault load ≡ false
      → get_or m.values word 0 ≡ memory m.setup.fault m.setup.test (state_after m.setup steps) load
  memory_now load word lt is fresh =
      value_at m order e steps s word lt
      ∙ ap (value_now m.setup.test (state_after m.setup steps).effects) (sym (word_is load word is))
      ∙ sym (ap (λ b. cond b (value_before m.setup.test (state_after m.setup steps).effects (word_at m.setup.test load)) (value_now m.setup.test (state_after m.setup steps).effects (word_at m.setup.test load))) fresh)

  pub memory_before : (load word : ℕ) → word < m.setup.test.words → action_at m.setup.test load ≡ Some (Load word) → is_stale m.setup.fault load ≡ true
      → get_or m.values_before word 0 ≡ memory m.setup.fault m.setup.test (state_after m.setup steps) load
  memory_before load word lt is stale =
      value_before_at m order e steps s word lt
      ∙ ap (value_before m.setup.test (state_after m.setup steps).effects) (sym (word_is load word is))
      ∙ sym (ap (λ b. cond b (value_before m.setup.test (state_after m.setup steps).effects (word_at m.setup.test load)) (value_now m.setup.test (state_after m.setup steps).effects (word_at m.setup.test load))) stale)

-- the last store that is found is a store

last_there : (o : Option ℕ) (xs : List ℕ) (x : ℕ) → last_or o xs ≡ Some x → (o ≡ Some x) ⊎ Contains xs x
last_there o [] x h = inl h
last_there o (y ∷ xs) x h = elim (last_there (Some y) xs x h) [ inl same ↦ inr (Contains-head y xs x (same_Some y x same)) | inr there ↦ inr (Contains-tail y xs x there) ]

store_from : (word : ℕ) (found : Option (ℕ × Op)) → passes (λ node. is_store_to word node.1) found ≡ true → passes (λ node. is_store node.1) found ≡ true
store_from word None h = absurd cc
store_from word (Some node) h = kind node.1 h where
  kind : (op : Op) → is_store_to word op ≡ true → is_store op ≡ true
  kind (ops.Load x) h = absurd cc
  kind (ops.Store x) h = refl
  kind ops.Fence h = absurd cc

pub newest_is_store : (p : Program) (word : ℕ) (xs : List ℕ) (x : ℕ) → Some x ≡ last_or None (filter (stores_to p word) xs) → is_store_at p x ≡ true
newest_is_store p word xs x h = elim (last_there None (filter (stores_to p word) xs) x (sym h)) [
  | inl nothing ↦ absurd cc
  | inr there ↦ store_from word (slice_get (nodes p) x) (Contains-filter_back (stores_to p word) xs x there).1
]

-- the places by the code's three ways

pub any_places : (order : StoreOrder) (fault : Fault) (p : Program) (entries : List ℕ) → drains_any fault ≡ true → length entries ≡ length (drains order fault p entries)
any_places order fault p entries h = sym (ap length (drains-any order fault p entries h) ∙ length-below (length entries))

pub any_place : (order : StoreOrder) (fault : Fault) (p : Program) (entries : List ℕ) (k : ℕ) → drains_any fault ≡ true → k < length (drains order fault p entries) → slice_get (drains order fault p entries) k ≡ Some k
any_place order fault p entries k h lt =
    let long = any_places order fault p entries h in
    ap (λ (xs : List ℕ). slice_get xs k) (drains-any order fault p entries h) ∙ below_at (length entries) k (omega (arith, lt, long))

pub front_places : (fault : Fault) (p : Program) (entries : List ℕ) → drains_any fault ≡ false → (n : ℕ) → length entries ≡ n → cond (not (n == 0)) 1 0 ≡ length (drains Total fault p entries)
front_places fault p entries h zero long = sym (ap length (drains-none fault p entries h long))
front_places fault p entries h (suc n) long = ap (λ b. cond (not b) 1 0) (ne_eqb (suc n) 0 (λ is. omega (arith, is))) ∙ sym (ap length (drains-first fault p entries h n long))

pub front_place : (fault : Fault) (p : Program) (entries : List ℕ) (k : ℕ) → drains_any fault ≡ false → (n : ℕ) → length entries ≡ n → k < length (drains Total fault p entries) → slice_get (drains Total fault p entries) k ≡ Some 0
front_place fault p entries k h zero long lt = let none = ap length (drains-none fault p entries h long) in absurd (omega (arith, none, lt))
front_place fault p entries k h (suc n) long lt =
    let one = ap length (drains-first fault p entries h n long) in
    let first : k ≡ 0 = omega (arith, one, lt) in
    ap (λ (xs : List ℕ). slice_get xs k) (drains-first fault p entries h n long) ∙ ap (slice_get (0 ∷ [])) first
