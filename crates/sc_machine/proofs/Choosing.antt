-- What is enabled on a machine, and its choices.
use Rattle.std.proofs.Common.{◌≡◌, ◌∙◌, ℕ, zero, suc, ◌<◌, ◌≤◌, List, [], ◌∷◌, ◌++◌, map, take, length, get_or, Bool, true, false, cond, Option, Some, None, arith, refl, sym, ap, subst, ⊎_elim}
use Rattle.std.specs.Prelude.{filter, nat_lt, slice_get}
use Rattle.std.specs.List.{flat_map}
use Rattle.std.specs.Option.{option_map, option_map_or}
use Rattle.std.proofs.lemmas.Bool.{cases_lt}
use Rattle.std.proofs.lemmas.List.{get_or-map, get_or-take, length-map, map-append}
use Rattle.std.proofs.lemmas.List.Elements.{filter-append}
use Rattle.std.proofs.lemmas.Option.{slice_get-get_or, slice_get-map, slice_get_within, get_or_from_slice_get}
use Rattle.orders.specs.Orders.{nodes_below}
use Rattle.test_lang.specs.declared.step.Step.{Step}
use Rattle.test_lang.specs.declared.step.Step.TheVariants.{Execute, Drain, Perform}
use Rattle.test_lang.specs.Program.{thread_length}
use Rattle.test_lang.specs.Play.States.{buffer, next_of}
use Rattle.test_lang.specs.Play.Machines.{node_of}
use Rattle.test_lang.specs.Play.Choices.{steps_of}
use Rattle.sim_core.specs.Setup.{choices_after, is_enabled_after}
use Rattle.sim_core.proofs.BelowLists.{filter-flat_map, filter-map, filter-none, flat_below-suc, get_or-map_below, length-map_below}
use Rattle.sim_core.proofs.NextOperations.{next_of-beyond, next_of-position}
use Rattle.sc_machine.specs.declared.threads.Thread.{Thread}
use Rattle.sc_machine.specs.Threads.{thread_end, is_open, open_at, open_numbers}
use Rattle.sc_machine.specs.Standing.{Standing, Stands, setup_of, state_of}
use Rattle.sc_machine.specs.Machine.{IsMachine}

-- a choice that is there or not
abbrev pub executes_if : Bool → ℕ → List Step
executes_if b thread = cond b (Execute thread ∷ []) []

executes-one : (b : Bool) (thread : ℕ) → map Execute (cond b (thread ∷ []) []) ≡ executes_if b thread
executes-one true thread = refl
executes-one false thread = refl

-- The threads as a machine keeps them.
pub record KeepsThreads (m : Standing) (threads : List Thread) : Type 0 where
  pub positions_are : map (λ thread. thread.next) threads ≡ m.positions
  pub ends_are : map (λ thread. thread.end) threads ≡ map (thread_end m.test) (nodes_below (length m.test.threads))

pub keeps_threads : (view m : Standing) (threads : List Thread) → IsMachine view threads → map (λ thread. thread.next) threads ≡ view.positions → view ≡ m → KeepsThreads m threads
keeps_threads view m threads h positions_are is = subst (λ (s : Standing). KeepsThreads s threads) is (record { positions_are = positions_are; ends_are = h.ends_are })

-- Which steps are enabled.
module _ (m : Standing) (steps : List Step) (h : Stands m steps) where
  some_open : (b : Bool) (n : ℕ) → option_map_or (λ (k : ℕ). true) (cond b (Some n) None) false ≡ b
  some_open true n = refl
  some_open false n = refl

  never : (found : Option ℕ) → option_map_or (λ (k : ℕ). false) found false ≡ false
  never None = refl
  never (Some n) = refl

  -- the next operation of a thread
  pub next_is : (thread : ℕ) → thread < length m.test.threads
      → next_of m.test (state_of m steps) thread ≡ cond (nat_lt (get_or m.positions thread 0) (thread_end m.test thread)) (Some (get_or m.positions thread 0)) None
  next_is thread lt = next_of-position m.test (state_of m steps) thread (get_or m.positions thread 0) (h.shows.positions_are thread lt)

  pub enabled-within : (thread : ℕ) → thread < length m.test.threads → is_enabled_after (setup_of m) steps (Execute thread) ≡ nat_lt (get_or m.positions thread 0) (thread_end m.test thread)
  enabled-within thread lt =
      ap (λ (found : Option ℕ). option_map_or (λ (k : ℕ). true) found false) (next_is thread lt) ∙ some_open (nat_lt (get_or m.positions thread 0) (thread_end m.test thread)) (get_or m.positions thread 0)

  pub enabled-beyond : (thread : ℕ) → length m.test.threads ≤ thread → is_enabled_after (setup_of m) steps (Execute thread) ≡ false
  enabled-beyond thread le = ap (λ (found : Option ℕ). option_map_or (λ (k : ℕ). true) found false) (next_of-beyond m.test (state_of m steps) thread le)

  pub enabled-drain : (thread place : ℕ) → is_enabled_after (setup_of m) steps (Drain thread place) ≡ false
  enabled-drain thread place = never (node_of m.test (state_of m steps) (Drain thread place))

  pub enabled-perform : (thread index : ℕ) → is_enabled_after (setup_of m) steps (Perform thread index) ≡ false
  enabled-perform thread index = never (node_of m.test (state_of m steps) (Perform thread index))

  -- the choices of a thread
  abbrev thread_choices : ℕ → List Step
  thread_choices thread = filter (is_enabled_after (setup_of m) steps) (steps_of m.test (state_of m steps) thread)

  no_others : (thread : ℕ) (places indices : List ℕ) → filter (is_enabled_after (setup_of m) steps) (map (Drain thread) places ++ map (Perform thread) indices) ≡ []
  no_others thread places indices =
      filter-append (is_enabled_after (setup_of m) steps) (map (Drain thread) places) (map (Perform thread) indices)
      ∙ ap (λ (xs : List Step). xs ++ filter (is_enabled_after (setup_of m) steps) (map (Perform thread) indices))
      (filter-map (is_enabled_after (setup_of m) steps) (Drain thread) places
      ∙ ap (map (Drain thread)) (filter-none (λ (k : ℕ). is_enabled_after (setup_of m) steps (Drain thread k)) places (λ k. enabled-drain thread k)))
      ∙ filter-map (is_enabled_after (setup_of m) steps) (Perform thread) indices
      ∙ ap (map (Perform thread)) (filter-none (λ (k : ℕ). is_enabled_after (setup_of m) steps (Perform thread k)) indices (λ k. enabled-perform thread k))

  thread_choices-are : (thread : ℕ) → thread_choices thread ≡ executes_if (is_enabled_after (setup_of m) steps (Execute thread)) thread
  thread_choices-are thread =
      ap (λ (rest : List Step). cond (is_enabled_after (setup_of m) steps (Execute thread)) (Execute thread ∷ rest) rest)
      (no_others thread (nodes_below (length (buffer m.test (state_of m steps) thread))) (nodes_below (thread_length m.test thread)))

  choices-are : choices_after (setup_of m) steps ≡ flat_map thread_choices (nodes_below (length m.test.threads))
  choices-are = filter-flat_map (is_enabled_after (setup_of m) steps) (steps_of m.test (state_of m steps)) (nodes_below (length m.test.threads))

  -- By the threads.
  module _ (threads : List Thread) (k : KeepsThreads m threads) where
    pub as_many : length threads ≡ length m.test.threads
    as_many = sym (length-map threads (λ (thread : Thread). thread.end)) ∙ ap length k.ends_are ∙ length-map_below (thread_end m.test) (length m.test.threads)

    pub enabled-open : (number : ℕ) (thread : Thread) → slice_get threads number ≡ Some thread → is_enabled_after (setup_of m) steps (Execute number) ≡ is_open thread
    enabled-open number thread e =
        let here = slice_get_within threads number thread e in
        let within : number < length m.test.threads = omega (arith, here, as_many) in
        let same : get_or threads number thread ≡ thread = get_or_from_slice_get threads number thread thread e in
        let next : get_or m.positions number 0 ≡ thread.next =
        ap (λ (xs : List ℕ). get_or xs number 0) (sym k.positions_are) ∙ get_or-map (λ (t : Thread). t.next) threads number thread 0 here ∙ ap (λ (t : Thread). t.next) same in
        let end : thread_end m.test number ≡ thread.end =
        sym (get_or-map_below (thread_end m.test) (length m.test.threads) number 0 within)
        ∙ ap (λ (xs : List ℕ). get_or xs number 0) (sym k.ends_are)
        ∙ get_or-map (λ (t : Thread). t.end) threads number thread 0 here
        ∙ ap (λ (t : Thread). t.end) same in
        enabled-within number within ∙ ap (λ (n : ℕ). nat_lt n (thread_end m.test number)) next ∙ ap (nat_lt thread.next) end

    choices-open : (number : ℕ) (thread : Thread) → slice_get threads number ≡ Some thread → thread_choices number ≡ executes_if (is_open thread) number
    choices-open number thread e = thread_choices-are number ∙ ap (λ (b : Bool). executes_if b number) (enabled-open number thread e)

    listed-below : (n : ℕ) → n ≤ length threads → flat_map thread_choices (nodes_below n) ≡ map Execute (filter (open_at threads) (nodes_below n))
    listed-below zero le = refl
    listed-below (suc n) le =
        let none : Thread = record { next = 0; end = 0 } in
        let here : slice_get threads n ≡ Some (get_or threads n none) = slice_get-get_or threads n none (omega (arith, le)) in
        flat_below-suc thread_choices n
        ∙ ap (λ (xs : List Step). xs ++ thread_choices n) (listed-below n (omega (arith, le)))
        ∙ ap (λ (xs : List Step). map Execute (filter (open_at threads) (nodes_below n)) ++ xs) (choices-open n (get_or threads n none) here)
        ∙ sym (ap (map Execute) (filter-append (open_at threads) (nodes_below n) (n ∷ []))
        ∙ map-append Execute (filter (open_at threads) (nodes_below n)) (cond (open_at threads n) (n ∷ []) [])
        ∙ ap (λ (xs : List Step). map Execute (filter (open_at threads) (nodes_below n)) ++ xs) (executes-one (open_at threads n) n))

    -- a thread that isn't there
    pub enabled-none : (number : ℕ) → slice_get threads number ≡ None → is_enabled_after (setup_of m) steps (Execute number) ≡ false
    enabled-none number e = ⊎_elim
        (λ (lt : number < length threads). let there = slice_get-get_or threads number (record { next = 0; end = 0 }) lt in absurd (cc (there, e)))
        (λ (le : length threads ≤ number). enabled-beyond number (omega (arith, le, as_many)))
        (cases_lt number (length threads))

    -- The choices are the executions of the threads with an operation left.
    pub choices-listed : choices_after (setup_of m) steps ≡ map Execute (open_numbers threads)
    choices-listed =
        choices-are
        ∙ ap (λ (n : ℕ). flat_map thread_choices (nodes_below n)) (sym as_many)
        ∙ listed-below (length threads) (omega arith)

    pub count-is : length (open_numbers threads) ≡ length (choices_after (setup_of m) steps)
    count-is = sym (ap length choices-listed ∙ length-map (open_numbers threads) Execute)

    -- The choice with a number is that of the thread with this place in the list.
    pub choice-is : (listed : List ℕ) (count place number : ℕ) → take count listed ≡ open_numbers threads → count ≡ length (open_numbers threads) → place < count → number ≡ get_or listed place 0
        → slice_get (choices_after (setup_of m) steps) place ≡ Some (Execute number)
    choice-is listed count place number listed_are counted lt is =
        let there : slice_get (open_numbers threads) place ≡ Some number =
        slice_get-get_or (open_numbers threads) place 0 (omega (arith, counted, lt))
        ∙ ap Some (ap (λ (xs : List ℕ). get_or xs place 0) (sym listed_are) ∙ get_or-take count listed place 0 lt ∙ sym is) in
        ap (λ (xs : List Step). slice_get xs place) choices-listed ∙ slice_get-map Execute (open_numbers threads) place ∙ ap (option_map Execute) there
