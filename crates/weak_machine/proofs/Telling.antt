-- What the fields of a machine tell of its play.
use Rattle.std.proofs.Common.{◌≡◌, ◌∙◌, ℕ, ◌+◌, ◌-◌, ◌<◌, List, [], ◌∷◌, ◌++◌, Bool, true, false, not, cond, map, length, get_or, set, Contains, All, Option, None, Some, ◌&&◌, refl, sym, ap, subst, arith, inl, inr}
use Rattle.std.specs.Prelude.{◌==◌, count_by, filter, nat_lt, slice_get}
use Rattle.std.specs.List.{list_all}
use Rattle.std.specs.Option.{option_map, option_map_or}
use Rattle.std.proofs.lemmas.Bool.{cases_Bool, cases_lt, eqb-true, eq-eqb, false≢true}
use Rattle.std.proofs.lemmas.List.{get_or_past, length-map}
use Rattle.std.proofs.lemmas.List.Sums.{sum_by-cons}
use Rattle.std.proofs.lemmas.Option.{slice_get-map}
use Rattle.orders.specs.Orders.{nodes_below}
use Rattle.orders.proofs.Below.{length-below}
use Rattle.test_lang.specs.declared.op.Action.{Action}
use Rattle.test_lang.specs.declared.step.Step.{Step}
use Rattle.test_lang.specs.declared.step.Step.TheVariants.{Perform}
use Rattle.test_lang.specs.Program.{Program, all_nodes, op_count, first_node, thread_at, thread_length}
use Rattle.test_lang.specs.Values.{is_store_at, same_thread, one_word, value_of}
use Rattle.test_lang.specs.Runs.{base, base_store, writes_for}
use Rattle.test_lang.specs.Play.States.{has}
use Rattle.test_lang.specs.Play.Machines.{is_ready}
use Rattle.test_lang.proofs.BaseStores.{base_store_own}
use Rattle.test_lang.proofs.ListTests.{and_true}
use Rattle.test_lang.proofs.Ranks.{is_store_at-below}
use Rattle.test_lang.proofs.Threads.{StandsIn, thread_at_some, thread_at-stands, thread_end-le}
use Rattle.sim_core.specs.Setup.{choices_after, is_enabled_after, is_done_after}
use Rattle.weak_machine.specs.NodeSets.{has_flag, flagged}
use Rattle.weak_machine.specs.Waiting.{waits_for}
use Rattle.weak_machine.specs.Standing.{Standing, Stands, state_of, base_is_left, performing}
use Rattle.weak_machine.specs.Machine.{setup_of, Counts, IsMachine, Tells}
use Rattle.sim_core.proofs.BelowLists.{get_or-map_below}
use Rattle.weak_machine.proofs.Filters.{filter-same_below}
use Rattle.weak_machine.proofs.Times.{lacks}
use Rattle.weak_machine.proofs.Waits.{direct-inside, direct-long, direct-sound, waits-pair}
use Rattle.weak_machine.proofs.WeakChoices.{step_at, step_at-is, choices-are}
use Rattle.weak_machine.proofs.WeakPlays.{closed-play, past-end, perform-enabled, ready-flags, ready-new}
use Rattle.weak_machine.proofs.Performing.{performed-is, stands-performed}

-- none of the nodes is left where all passed

none-left : (f : ℕ → Bool) (xs : List ℕ) → count_by not (map f xs) ≡ 0 → list_all f xs ≡ true
none-left f [] e = refl
none-left f (x ∷ xs) e =
    let all = sum_by-cons (λ b. cond (not b) 1 0) (f x) (map f xs) in
    both (f x) (list_all f xs) (passed (f x) (omega (arith, all, e))) (none-left f xs (omega (arith, all, e))) where
      passed : (b : Bool) → cond {A = ℕ} (not b) 1 0 ≡ 0 → b ≡ true
      passed true h = refl
      passed false h = absurd (omega (arith, h))

      both : (y z : Bool) → y ≡ true → z ≡ true → (y && z) ≡ true
      both true z h i = i
      both false z h i = absurd cc

all-passed : (f : ℕ → Bool) (xs : List ℕ) → list_all f xs ≡ true → count_by not (map f xs) ≡ 0
all-passed f [] h = refl
all-passed f (x ∷ xs) h =
    let parts = and_true (f x) (list_all f xs) h in
    let all = sum_by-cons (λ b. cond (not b) 1 0) (f x) (map f xs) in
    let here : cond {A = ℕ} (not (f x)) 1 0 ≡ 0 = ap (λ b. cond {A = ℕ} (not b) 1 0) parts.0 in
    let rest = all-passed f xs parts.1 in
    omega (arith, all, here, rest)

counted-all : (f : ℕ → Bool) (xs : List ℕ) → (count_by not (map f xs) == 0) ≡ list_all f xs
counted-all f xs = by (count_by not (map f xs) == 0) (list_all f xs) refl refl where
  by : (x y : Bool) → (count_by not (map f xs) == 0) ≡ x → list_all f xs ≡ y → x ≡ y
  by true true e h = refl
  by true false e h = absurd (false≢true (sym h ∙ none-left f xs (eqb-true (count_by not (map f xs)) 0 e)))
  by false true e h = absurd (false≢true (sym e ∙ eq-eqb (count_by not (map f xs)) 0 (all-passed f xs h)))
  by false false e h = refl

module _ (m : Standing) (waiting : List (List ℕ)) (bases : List (Option ℕ)) (current opening : Counts) (i : IsMachine m waiting bases current opening) where
  pub waiting-long : length waiting ≡ op_count m.test
  waiting-long = ap length i.waiting_is ∙ direct-long m.fault m.test

  pub ready-long : length current.ready ≡ op_count m.test
  ready-long = i.current_told.one_ready_each ∙ waiting-long

  pub bases-long : length bases ≡ op_count m.test
  bases-long = ap length i.bases_are ∙ length-map (all_nodes m.test) (base_store m.test) ∙ length-below (op_count m.test)

  pub performed-long : length m.performed ≡ op_count m.test
  performed-long = ap length (sym i.current_is) ∙ i.current_told.one_performed_each ∙ waiting-long

  -- a node that waits for one is a node, and isn't that one

  pub listed-waits : (a b : ℕ) → Contains (get_or waiting a []) b → waits_for m.fault m.test a b ≡ true
  listed-waits a b there = direct-sound m.fault m.test a b (subst (λ (lists : List (List ℕ)). Contains (get_or lists a []) b) i.waiting_is there)

  pub listed-nodes : (a : ℕ) → All (λ n. n < length waiting) (get_or waiting a [])
  listed-nodes a = direct-inside m.fault m.test waiting i.waiting_is a

  pub listed-other : (a : ℕ) → has (get_or waiting a []) a ≡ false
  listed-other a = lacks (get_or waiting a []) a (λ there. let later = (waits-pair m.fault m.test a a (listed-waits a a there)).earlier in omega (arith, later))

  module _ (steps : List Step) (s : Stands m steps) where
    pub ready-is : (n : ℕ) → n < op_count m.test → has_flag current.ready n ≡ is_ready m.fault m.test (state_of m steps) n
    ready-is n lt =
        ready-flags m.fault m.test (state_of m steps) waiting current.performed current.missing current.ready current.left i.waiting_is i.current_told (i.current_is ∙ s.performed_are)
        (closed-play m.fault m.test steps s.is_play) n lt

    pub flagged-is : flagged current.ready ≡ filter (is_ready m.fault m.test (state_of m steps)) (all_nodes m.test)
    flagged-is =
        ap (λ (n : ℕ). filter (has_flag current.ready) (nodes_below n)) ready-long
        ∙ filter-same_below (has_flag current.ready) (is_ready m.fault m.test (state_of m steps)) (op_count m.test) ready-is

    choices-is : choices_after (setup_of m) steps ≡ map (step_at m.test) (flagged current.ready)
    choices-is = choices-are m.fault m.test (state_of m steps) ∙ ap (map (step_at m.test)) (sym flagged-is)

    pub count-is : length (flagged current.ready) ≡ length (choices_after (setup_of m) steps)
    count-is = sym (ap length choices-is ∙ length-map (flagged current.ready) (step_at m.test))

    pub choice-is : (k n thread : ℕ) → slice_get (flagged current.ready) k ≡ Some n → thread_at m.test n ≡ Some thread → slice_get (choices_after (setup_of m) steps) k ≡ Some (Perform thread (n - first_node m.test thread))
    choice-is k n thread found at =
        ap (λ (all : List Step). slice_get all k) choices-is
        ∙ slice_get-map (step_at m.test) (flagged current.ready) k
        ∙ ap (option_map (step_at m.test)) found
        ∙ ap Some (step_at-is m.test n thread at)

    pub enabled-is : (thread index : ℕ) → index < thread_length m.test thread → has_flag current.ready (first_node m.test thread + index) ≡ is_enabled_after (setup_of m) steps (Perform thread index)
    enabled-is thread index lt =
        let end = thread_end-le m.test thread in
        ready-is (first_node m.test thread + index) (omega (arith, end, lt)) ∙ sym (perform-enabled m.fault m.test (state_of m steps) thread index lt)

    pub done-is : (current.left == 0) ≡ is_done_after (setup_of m) steps
    done-is =
        ap (λ (n : ℕ). n == 0) (i.current_told.left_is ∙ ap (λ (flags : List Bool). count_by not flags) (i.current_is ∙ s.performed_are))
        ∙ counted-all (has (state_of m steps).effects) (all_nodes m.test)

    -- a node that waits for one that is left is left
    pub targets-left : (n : ℕ) → n < op_count m.test → has_flag current.ready n ≡ true → (t : ℕ) → Contains (get_or waiting n []) t → has_flag current.performed t ≡ false
    targets-left n lt can t there =
        let waits = listed-waits n t there in
        let below = (waits-pair m.fault m.test n t waits).second in
        let new : has (state_of m steps).effects n ≡ false = ready-new m.fault m.test (state_of m steps) n (sym (ready-is n lt) ∙ can) in
        elim (cases_Bool (has (state_of m steps).effects t)) [
          | inl took ↦ absurd (false≢true (sym new ∙ closed-play m.fault m.test steps s.is_play n t waits took))
          | inr left ↦ ap (λ (flags : List Bool). has_flag flags t) i.current_is ∙ performed-is m steps s t below ∙ left
        ]

-- The base store of a node.

module _ (m : Standing) (waiting : List (List ℕ)) (bases : List (Option ℕ)) (current opening : Counts) (i : IsMachine m waiting bases current opening) (n : ℕ) (lt : n < op_count m.test) where
  pub base-read : (found : Option ℕ) → found ≡ get_or bases n found → found ≡ base_store m.test n
  base-read found e = e ∙ ap (λ (xs : List (Option ℕ)). get_or xs n found) i.bases_are ∙ get_or-map_below (base_store m.test) (op_count m.test) n found lt

  module _ (store : ℕ) (e : base_store m.test n ≡ Some store) where
    pub base-is_store : is_store_at m.test store ≡ true
    base-is_store =
        let own = base_store_own m.test n store e in
        let writes = (and_true (writes_for m.test n store) (same_thread m.test n store && nat_lt store n) own).0 in
        (and_true (is_store_at m.test store) (one_word m.test n store) writes).0

    pub base-below : store < op_count m.test
    base-below = is_store_at-below m.test store base-is_store

    pub base-left : not (has_flag m.performed store) ≡ base_is_left m n
    base-left = sym (ap (λ (found : Option ℕ). option_map_or (λ s. not (has_flag m.performed s)) found false) e)

    pub base-value : value_of m.test store ≡ base m.test n
    base-value = sym (ap (λ (found : Option ℕ). option_map_or (value_of m.test) found 0) e)

  module _ (e : base_store m.test n ≡ None) where
    pub no_base-left : false ≡ base_is_left m n
    no_base-left = sym (ap (λ (found : Option ℕ). option_map_or (λ s. not (has_flag m.performed s)) found false) e)

    pub no_base-value : 0 ≡ base m.test n
    no_base-value = sym (ap (λ (found : Option ℕ). option_map_or (value_of m.test) found 0) e)

-- A node was performed.
module _ (m : Standing) (waiting : List (List ℕ)) (bases : List (Option ℕ)) (current opening : Counts) (i : IsMachine m waiting bases current opening) (n : ℕ) (lt : n < op_count m.test)
    (ready : (steps : List Step) → Stands m steps → is_ready m.fault m.test (state_of m steps) n ≡ true) where
  pub can-perform : has_flag current.ready n ≡ true
  can-perform = ready-is m waiting bases current opening i i.stands_for.0 i.stands_for.1 n lt ∙ ready i.stands_for.0 i.stands_for.1

  -- the steps, and the one that performs the node
  stands_now : (thread : ℕ) → StandsIn m.test thread n → (steps : List Step) × Stands (performing m n) steps
  stands_now thread s =
      let from = s.from in
      let to = s.to in
      let node : first_node m.test thread + (n - first_node m.test thread) ≡ n = omega (arith, from) in (
        i.stands_for.0 ++ Perform thread (n - first_node m.test thread) ∷ [],
        subst (λ (k : ℕ). Stands (performing m k) (i.stands_for.0 ++ Perform thread (n - first_node m.test thread) ∷ [])) node
            (stands-performed m i.stands_for.0 i.stands_for.1 thread (n - first_node m.test thread) (omega (arith, from, to))
            (subst (λ (k : ℕ). is_ready m.fault m.test (state_of m i.stands_for.0) k ≡ true) (sym node) (ready i.stands_for.0 i.stands_for.1))),
      )

  pub machine-performed : (next : Counts) → Tells waiting next → next.performed ≡ set m.performed n true → IsMachine (performing m n) waiting bases next opening
  machine-performed next told flags =
      let thread = thread_at_some m.test n lt in
      record {
        waiting_is = i.waiting_is;
        bases_are = i.bases_are;
        current_told = told;
        opening_told = i.opening_told;
        current_is = flags;
        opening_is = i.opening_is;
        stands_for = stands_now thread.0 (thread_at-stands m.test n thread.0 thread.1);
      }

-- An enabled step names an operation of a thread.

within_threads : (threads : List (List Action)) (thread index : ℕ) → index < length (get_or threads thread []) → thread < length threads
within_threads threads thread index lt = elim (cases_lt thread (length threads)) [
  | inl within ↦ within
  | inr past ↦ let none = ap length (get_or_past threads thread [] past) in absurd (omega (arith, lt, none))
]

pub thread-within : (p : Program) (thread index : ℕ) → index < thread_length p thread → thread < length p.threads
thread-within p thread index lt = within_threads p.threads thread index lt

pub index-within : (m : Standing) (steps : List Step) (thread index : ℕ) → is_enabled_after (setup_of m) steps (Perform thread index) ≡ true → index < thread_length m.test thread
index-within m steps thread index h = elim (cases_lt index (thread_length m.test thread)) [
  | inl within ↦ within
  | inr past ↦ absurd (false≢true (sym (past-end m.fault m.test (state_of m steps) thread index past) ∙ h))
]

-- of a machine that stands for some steps
pub perform-within : (m now : Standing) (waiting : List (List ℕ)) (bases : List (Option ℕ)) (current opening : Counts) (i : IsMachine m waiting bases current opening) → m ≡ now → (step : Step) (thread index : ℕ) → step ≡ Perform thread index
    → ((steps : List Step) → Stands now steps → is_enabled_after (setup_of now) steps step ≡ true) → index < thread_length m.test thread
perform-within m now waiting bases current opening i view step thread index is asked =
    index-within m i.stands_for.0 thread index
    (ap (λ (standing : Standing). is_enabled_after (setup_of standing) i.stands_for.0 (Perform thread index)) view
    ∙ ap (is_enabled_after (setup_of now) i.stands_for.0) (sym is)
    ∙ asked i.stands_for.0 (subst (λ (standing : Standing). Stands standing i.stands_for.0) view i.stands_for.1))
