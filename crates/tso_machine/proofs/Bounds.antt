-- What a machine that stands behind some steps shows of the play.
use Rattle.std.proofs.Common.{◌≡◌, ◌∙◌, ℕ, ◌+◌, ◌<◌, ◌≤◌, List, [], Bool, true, false, cond, length, get_or, Contains, All, refl, sym, ap, subst, arith, None, Some}
use Rattle.std.specs.Prelude.{filter, nat_lt}
use Rattle.std.proofs.lemmas.Bool.{ltb-true, lt-ltb, le-ltb}
use Rattle.std.proofs.lemmas.List.Elements.{All-from_get_or, Contains-get_or}
use Rattle.std.proofs.lemmas.Option.{same_Some}
use Rattle.test_lang.specs.Play.Machines.{is_enabled}
use Rattle.test_lang.specs.Play.Choices.{steps_of}
use Rattle.test_lang.specs.declared.step.Step.{Step}
use Rattle.test_lang.specs.declared.target.Target.{Target}
use Rattle.test_lang.specs.Program.{op_count, first_node, thread_length}
use Rattle.test_lang.specs.Values.{load_count, load_nodes}
use Rattle.test_lang.specs.Play.States.{next_of, buffer, value_now, value_before, value_given}
use Rattle.test_lang.proofs.Ranks.{length-load_nodes}
use Rattle.test_lang.proofs.PlayLaws.Firsts.{next_is}
use Rattle.test_lang.proofs.PlayLaws.Moves.{coherent, in_buffer}
use Rattle.sim_core.specs.Setup.{state_after}
use Rattle.std.proofs.lemmas.List.{length-map}
use Rattle.tso_machine.specs.declared.playing.StoreOrder.{StoreOrder}
use Rattle.tso_machine.specs.Moments.{Moment, StandsBehind, position, target_of}
use Rattle.tso_machine.specs.Moves.{IsNext, thread_choices}
use Rattle.sim_core.proofs.BelowLists.{get_or-map_below, length-map_below}
use Rattle.tso_machine.proofs.Turns.{IsInTurn, in_turn, next_at, ExecutesInOrder}
use Rattle.tso_machine.proofs.ChoiceLists.{in_order, same_chosen}

module _ (m : Moment) (order : StoreOrder) (e : m.setup.target ≡ target_of order) where
  pub ordered : ExecutesInOrder m.setup.target
  ordered = subst ExecutesInOrder (sym e) (in_order order)

  module _ (steps : List Step) (s : StandsBehind m steps) where
    pub turn : IsInTurn m.setup.test (state_after m.setup steps).executed
    turn = in_turn m.setup.target m.setup.fault m.setup.test steps ordered s.is_play

    pub effects_within : (n : ℕ) → Contains (state_after m.setup steps).effects n → Contains (state_after m.setup steps).executed n
    effects_within = (coherent m.setup.target m.setup.fault m.setup.test steps s.is_play).within

    pub long_positions : length m.positions ≡ length m.setup.test.threads
    long_positions = ap length s.shows.positions ∙ length-map_below (position m.setup.test (state_after m.setup steps).executed) (length m.setup.test.threads)

    pub position_at : (t : ℕ) → t < length m.setup.test.threads → get_or m.positions t 0 ≡ position m.setup.test (state_after m.setup steps).executed t
    position_at t lt =
        ap (λ (xs : List ℕ). get_or xs t 0) s.shows.positions
        ∙ get_or-map_below (position m.setup.test (state_after m.setup steps).executed) (length m.setup.test.threads) t 0 lt

    -- the next operation, by the position
    pub next_by : (t : ℕ) → t < length m.setup.test.threads → next_of m.setup.test (state_after m.setup steps) t
        ≡ cond (nat_lt (get_or m.positions t 0) (first_node m.setup.test t + thread_length m.setup.test t)) (Some (get_or m.positions t 0)) None
    next_by t lt =
        next_at m.setup.test (state_after m.setup steps) t turn
        ∙ ap (λ (k : ℕ). cond (nat_lt k (first_node m.setup.test t + thread_length m.setup.test t)) (Some k) None) (sym (position_at t lt))

    pub long_buffers : length m.buffers ≡ length m.setup.test.threads
    long_buffers = ap length s.shows.buffers ∙ length-map_below (buffer m.setup.test (state_after m.setup steps)) (length m.setup.test.threads)

    pub buffer_at : (t : ℕ) → t < length m.setup.test.threads → get_or m.buffers t [] ≡ buffer m.setup.test (state_after m.setup steps) t
    buffer_at t lt =
        ap (λ (xs : List (List ℕ)). get_or xs t []) s.shows.buffers ∙ get_or-map_below (buffer m.setup.test (state_after m.setup steps)) (length m.setup.test.threads) t [] lt

    pub buffer_nodes : (t : ℕ) → t < length m.setup.test.threads → All (λ n. n < op_count m.setup.test) (get_or m.buffers t [])
    buffer_nodes t lt =
        let same = buffer_at t lt in
        subst (All (λ n. n < op_count m.setup.test)) (sym same)
        (All-from_get_or (λ n. n < op_count m.setup.test) (buffer m.setup.test (state_after m.setup steps) t) 0
        (λ k below. (in_buffer m.setup.test (state_after m.setup steps) t (get_or (buffer m.setup.test (state_after m.setup steps) t) k 0)
        (Contains-get_or (buffer m.setup.test (state_after m.setup steps) t) k 0 below)).below))

    pub long_values : length m.values ≡ m.setup.test.words
    long_values = ap length s.shows.values ∙ length-map_below (value_now m.setup.test (state_after m.setup steps).effects) m.setup.test.words

    pub long_values_before : length m.values_before ≡ m.setup.test.words
    long_values_before = ap length s.shows.values_before ∙ length-map_below (value_before m.setup.test (state_after m.setup steps).effects) m.setup.test.words

    pub value_at : (word : ℕ) → word < m.setup.test.words → get_or m.values word 0 ≡ value_now m.setup.test (state_after m.setup steps).effects word
    value_at word lt = ap (λ (xs : List ℕ). get_or xs word 0) s.shows.values ∙ get_or-map_below (value_now m.setup.test (state_after m.setup steps).effects) m.setup.test.words word 0 lt

    pub value_before_at : (word : ℕ) → word < m.setup.test.words → get_or m.values_before word 0 ≡ value_before m.setup.test (state_after m.setup steps).effects word
    value_before_at word lt = ap (λ (xs : List ℕ). get_or xs word 0) s.shows.values_before ∙ get_or-map_below (value_before m.setup.test (state_after m.setup steps).effects) m.setup.test.words word 0 lt

    pub long_loads : length m.loads ≡ load_count m.setup.test
    long_loads = ap length s.shows.loads ∙ length-map (load_nodes m.setup.test) (value_given (state_after m.setup steps).loads) ∙ length-load_nodes m.setup.test

    -- the node that is next stands at the thread's position
    pub next_here : (t n : ℕ) → t < length m.setup.test.threads → IsNext m t n → (get_or m.positions t 0 ≡ n) × (n < first_node m.setup.test t + thread_length m.setup.test t)
    next_here t n lt next = at (nat_lt (get_or m.positions t 0) (first_node m.setup.test t + thread_length m.setup.test t)) refl (sym (next_by t lt) ∙ next steps s) where
      at : (b : Bool) → nat_lt (get_or m.positions t 0) (first_node m.setup.test t + thread_length m.setup.test t) ≡ b → cond b (Some (get_or m.positions t 0)) None ≡ Some n
          → (get_or m.positions t 0 ≡ n) × (n < first_node m.setup.test t + thread_length m.setup.test t)
      at true h is =
          let same : get_or m.positions t 0 ≡ n = same_Some (get_or m.positions t 0) n is in
          let below = ltb-true (get_or m.positions t 0) (first_node m.setup.test t + thread_length m.setup.test t) h in
          (same, omega (arith, same, below))
      at false h is = absurd cc

    pub next_below : (t n : ℕ) → IsNext m t n → n < op_count m.setup.test
    next_below t n next = (next_is m.setup.test (state_after m.setup steps) t n (next steps s)).below

    -- what the code finds of it
    pub next_some : (t x first long : ℕ) → t < length m.setup.test.threads → x ≡ get_or m.positions t 0 → first ≡ first_node m.setup.test t → long ≡ thread_length m.setup.test t → x < first + long
        → Some x ≡ next_of m.setup.test (state_after m.setup steps) t
    next_some t x first long lt at begins counts below =
        ap (λ (k : ℕ). Some k) at
        ∙ sym (ap (λ b. cond b (Some (get_or m.positions t 0)) None) (lt-ltb (get_or m.positions t 0) (first_node m.setup.test t + thread_length m.setup.test t) (omega (arith, at, begins, counts, below))))
        ∙ sym (next_by t lt)

    pub next_none : (t x first long : ℕ) → t < length m.setup.test.threads → x ≡ get_or m.positions t 0 → first ≡ first_node m.setup.test t → long ≡ thread_length m.setup.test t → first + long ≤ x
        → None ≡ next_of m.setup.test (state_after m.setup steps) t
    next_none t x first long lt at begins counts past =
        sym (ap (λ b. cond b (Some (get_or m.positions t 0)) None) (le-ltb (get_or m.positions t 0) (first_node m.setup.test t + thread_length m.setup.test t) (omega (arith, at, begins, counts, past))))
        ∙ sym (next_by t lt)

  -- the choices of a thread are the same behind all steps
  pub same_choices : (a b : List Step) → StandsBehind m a → StandsBehind m b → (t : ℕ) → t < length m.setup.test.threads → thread_choices m.setup a t ≡ thread_choices m.setup b t
  same_choices a b s r t lt =
      subst (λ (target : Target). filter (is_enabled target m.setup.fault m.setup.test (state_after m.setup a)) (steps_of m.setup.test (state_after m.setup a) t)
      ≡ filter (is_enabled target m.setup.fault m.setup.test (state_after m.setup b)) (steps_of m.setup.test (state_after m.setup b) t)) (sym e)
      (same_chosen order m.setup.fault m.setup.test (state_after m.setup a) (state_after m.setup b) t (next_by a s t lt ∙ sym (next_by b r t lt)) (sym (buffer_at a s t lt) ∙ buffer_at b r t lt))
