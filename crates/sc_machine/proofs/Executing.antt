-- A step of a machine leads to where the play leads.
use Rattle.std.proofs.Common.{◌≡◌, ◌≢◌, ◌∙◌, ℕ, ◌+◌, ◌-◌, ◌<◌, ◌≤◌, List, [], ◌∷◌, ◌++◌, map, set, length, get_or, Bool, true, false, cond, Option, Some, None, arith, refl, sym, ap, subst, ⊎_elim, get_or-set_same, get_or-set_other, length-set}
use Rattle.std.specs.Prelude.{slice_get, IsTrue}
use Rattle.std.specs.Option.{option_map, option_map_or}
use Rattle.std.proofs.lemmas.Bool.{cases_eq, cases_lt, ltb-true}
use Rattle.std.proofs.lemmas.Option.{slice_get-get_or, same_Some}
use Rattle.orders.specs.Orders.{nodes_below}
use Rattle.test_lang.specs.declared.op.Op.{Op}
use Rattle.test_lang.specs.declared.op.Op.TheVariants.{Load, Store, Fence}
use Rattle.test_lang.specs.declared.target.Target.TheVariants.{Sc}
use Rattle.test_lang.specs.declared.step.Step.{Step}
use Rattle.test_lang.specs.declared.step.Step.TheVariants.{Execute}
use Rattle.test_lang.specs.Program.{Program, nodes, op_at, op_count, thread_at, first_node, thread_length, HasWord, IsWithinLimits}
use Rattle.test_lang.specs.Values.{word_of, is_load_at, is_store_at, load_nodes, rank_of, value_of, word_at}
use Rattle.test_lang.specs.Play.States.{State, value_now, value_before, value_given, next_of}
use Rattle.test_lang.specs.Play.Faults.{is_stale}
use Rattle.test_lang.specs.Play.Machines.{after_node, executing, memory}
use Rattle.test_lang.specs.Play.Plays.{steps_left}
use Rattle.test_lang.proofs.Nodes.{is_load_at-op, is_store_at-op}
use Rattle.test_lang.proofs.Threads.{stands-thread_at, thread_end-le}
use Rattle.test_lang.proofs.PlayLaws.Moves.{coherent, sc_idle}
use Rattle.test_lang.proofs.PlayLaws.StepsLeft.{falls}
use Rattle.sim_core.specs.Setup.{is_enabled_after}
use Rattle.sim_core.specs.Positions.{StandsAt}
use Rattle.sim_core.proofs.BelowLists.{get_or-map_below}
use Rattle.sim_core.proofs.LoadsAfter.{loads-given}
use Rattle.sim_core.proofs.MemoryAfter.{before-other, before-store, now-other, now-store}
use Rattle.sim_core.proofs.NextOperations.{stands-next, stands-other}
use Rattle.sim_core.proofs.PlaysOn.{final-push, IsPlay-push}
use Rattle.sc_machine.specs.Threads.{thread_end}
use Rattle.sc_machine.specs.Standing.{Standing, Shows, Stands, setup_of, state_of, given_by, executing_at}
use Rattle.sc_machine.proofs.Choosing.{next_is, enabled-within, enabled-beyond}

-- the operation of a node
record HasOp (p : Program) (n : ℕ) (op : Op) : Type 0 where
  is : op_at p n ≡ Some op
  word : HasWord p op

has_op : (p : Program) → IsWithinLimits p → (n : ℕ) → n < op_count p → (op : Op) × HasOp p n op
has_op p limits n lt =
    let found : slice_get (nodes p) n ≡ Some (get_or (nodes p) n (0, Fence)) = slice_get-get_or (nodes p) n (0, Fence) lt in
    ((get_or (nodes p) n (0, Fence)).1, record { is = ap (option_map (λ (node : ℕ × Op). node.1)) found; word = limits.words_of n (0, Fence) lt })

pub word_at-op : (p : Program) (n : ℕ) (op : Op) → op_at p n ≡ Some op → word_at p n ≡ word_of op
word_at-op p n op e = ap (λ (found : Option Op). option_map_or word_of found 0) e

-- What the machine has in memory, by word.
module _ (m : Standing) (st : State) (h : Shows m st) where
  now-at : (x : ℕ) → x < m.test.words → get_or m.now x 0 ≡ value_now m.test st.effects x
  now-at x lt = ap (λ (xs : List ℕ). get_or xs x 0) h.now_are ∙ get_or-map_below (value_now m.test st.effects) m.test.words x 0 lt

  before-at : (x : ℕ) → x < m.test.words → get_or m.before x 0 ≡ value_before m.test st.effects x
  before-at x lt = ap (λ (xs : List ℕ). get_or xs x 0) h.before_are ∙ get_or-map_below (value_before m.test st.effects) m.test.words x 0 lt

  pub given-is : (n : ℕ) → word_at m.test n < m.test.words → given_by m n ≡ memory m.fault m.test st n
  given-is n lt =
      ap (λ (v : ℕ). cond (is_stale m.fault n) v (get_or m.now (word_at m.test n) 0)) (before-at (word_at m.test n) lt)
      ∙ ap (λ (v : ℕ). cond (is_stale m.fault n) (value_before m.test st.effects (word_at m.test n)) v) (now-at (word_at m.test n) lt)

-- One operation is executed.
module _ (m : Standing) (st : State) (h : Shows m st) (thread n : ℕ) (effects : List ℕ) (effects_are : effects ≡ st.effects ++ n ∷ []) where
  abbrev Memory : List ℕ → List ℕ → Type 0
  Memory now before = (now ≡ map (value_now m.test effects) (nodes_below m.test.words)) × (before ≡ map (value_before m.test effects) (nodes_below m.test.words))

  module _ (x : ℕ) (is : op_at m.test n ≡ Some (Store x)) (within : x < m.test.words) where
    store_word : word_at m.test n ≡ x
    store_word = word_at-op m.test n (Store x) is

    now_stored : set m.now (word_at m.test n) (value_of m.test n) ≡ map (value_now m.test effects) (nodes_below m.test.words)
    now_stored =
        ap (λ (w : ℕ). set m.now w (value_of m.test n)) store_word
        ∙ ap (λ (xs : List ℕ). set xs x (value_of m.test n)) h.now_are
        ∙ sym (now-store m.test st.effects n x is within)
        ∙ ap (λ (es : List ℕ). map (value_now m.test es) (nodes_below m.test.words)) (sym effects_are)

    before_stored : set m.before (word_at m.test n) (get_or m.now (word_at m.test n) 0) ≡ map (value_before m.test effects) (nodes_below m.test.words)
    before_stored =
        ap (λ (w : ℕ). set m.before w (get_or m.now w 0)) store_word
        ∙ ap (set m.before x) (now-at m st h x within)
        ∙ ap (λ (xs : List ℕ). set xs x (value_now m.test st.effects x)) h.before_are
        ∙ sym (before-store m.test st.effects n x is within)
        ∙ ap (λ (es : List ℕ). map (value_before m.test es) (nodes_below m.test.words)) (sym effects_are)

  memory_kept : is_store_at m.test n ≡ false → Memory m.now m.before
  memory_kept isnt = (
    h.now_are ∙ sym (now-other m.test st.effects n isnt) ∙ ap (λ (es : List ℕ). map (value_now m.test es) (nodes_below m.test.words)) (sym effects_are),
    h.before_are ∙ sym (before-other m.test st.effects n isnt) ∙ ap (λ (es : List ℕ). map (value_before m.test es) (nodes_below m.test.words)) (sym effects_are),
  )

  memory_after : (op : Op) → HasOp m.test n op → Memory (executing_at m thread n).now (executing_at m thread n).before
  memory_after (Load x) o =
      let isnt : is_store_at m.test n ≡ false = is_store_at-op m.test n (Load x) o.is in
      let kept = memory_kept isnt in (
        ap (λ (b : Bool). cond b (set m.now (word_at m.test n) (value_of m.test n)) m.now) isnt ∙ kept.0,
        ap (λ (b : Bool). cond b (set m.before (word_at m.test n) (get_or m.now (word_at m.test n) 0)) m.before) isnt ∙ kept.1,
      )
  memory_after Fence o =
      let isnt : is_store_at m.test n ≡ false = is_store_at-op m.test n Fence o.is in
      let kept = memory_kept isnt in (
        ap (λ (b : Bool). cond b (set m.now (word_at m.test n) (value_of m.test n)) m.now) isnt ∙ kept.0,
        ap (λ (b : Bool). cond b (set m.before (word_at m.test n) (get_or m.now (word_at m.test n) 0)) m.before) isnt ∙ kept.1,
      )
  memory_after (Store x) o =
      let is_so : is_store_at m.test n ≡ true = is_store_at-op m.test n (Store x) o.is in (
        ap (λ (b : Bool). cond b (set m.now (word_at m.test n) (value_of m.test n)) m.now) is_so ∙ now_stored x o.is o.word,
        ap (λ (b : Bool). cond b (set m.before (word_at m.test n) (get_or m.now (word_at m.test n) 0)) m.before) is_so ∙ before_stored x o.is o.word,
      )

  loads_kept : is_load_at m.test n ≡ false → (executing_at m thread n).loads ≡ map (value_given (cond (is_load_at m.test n) ((n, memory m.fault m.test st n) ∷ st.loads) st.loads)) (load_nodes m.test)
  loads_kept isnt =
      ap (λ (b : Bool). cond b (set m.loads (rank_of m.test n) (given_by m n)) m.loads) isnt
      ∙ h.loads_are
      ∙ ap (λ (b : Bool). map (value_given (cond b ((n, memory m.fault m.test st n) ∷ st.loads) st.loads)) (load_nodes m.test)) (sym isnt)

  loads_after : (op : Op) → HasOp m.test n op → (executing_at m thread n).loads ≡ map (value_given (cond (is_load_at m.test n) ((n, memory m.fault m.test st n) ∷ st.loads) st.loads)) (load_nodes m.test)
  loads_after (Load x) o =
      let is_so : is_load_at m.test n ≡ true = is_load_at-op m.test n (Load x) o.is in
      let given : given_by m n ≡ memory m.fault m.test st n = given-is m st h n (subst (λ (w : ℕ). w < m.test.words) (sym (word_at-op m.test n (Load x) o.is)) o.word) in
      ap (λ (b : Bool). cond b (set m.loads (rank_of m.test n) (given_by m n)) m.loads) is_so
      ∙ ap (set m.loads (rank_of m.test n)) given
      ∙ ap (λ (xs : List ℕ). set xs (rank_of m.test n) (memory m.fault m.test st n)) h.loads_are
      ∙ sym (loads-given m.test st.loads n (memory m.fault m.test st n) is_so)
      ∙ ap (λ (b : Bool). map (value_given (cond b ((n, memory m.fault m.test st n) ∷ st.loads) st.loads)) (load_nodes m.test)) (sym is_so)
  loads_after (Store x) o = loads_kept (is_load_at-op m.test n (Store x) o.is)
  loads_after Fence o = loads_kept (is_load_at-op m.test n Fence o.is)

  -- the thread moves on, and the others stay
  positions_after : thread_at m.test n ≡ Some thread → n ≡ get_or m.positions thread 0 → thread < length m.test.threads → n < first_node m.test thread + thread_length m.test thread → (other : ℕ) → other < length m.test.threads
      → StandsAt m.test (st.executed ++ n ∷ []) other (get_or (set m.positions thread (n + 1)) other 0)
  positions_after of_thread here within room other lt = ⊎_elim
      (λ (same : other ≡ thread).
      let each = h.one_position_each in
      let at : get_or (set m.positions thread (n + 1)) other 0 ≡ n + 1 =
      ap (λ (t : ℕ). get_or (set m.positions thread (n + 1)) t 0) same ∙ get_or-set_same m.positions thread (n + 1) 0 (omega (arith, within, each)) in
      let stood : StandsAt m.test st.executed thread n = subst (StandsAt m.test st.executed thread) (sym here) (h.positions_are thread within) in
      subst (StandsAt m.test (st.executed ++ n ∷ []) other) (sym at)
      (subst (λ (t : ℕ). StandsAt m.test (st.executed ++ n ∷ []) t (n + 1)) (sym same) (stands-next m.test st.executed thread n stood room)))
      (λ (apart : other ≢ thread).
      subst (StandsAt m.test (st.executed ++ n ∷ []) other) (sym (get_or-set_other m.positions thread other (n + 1) 0 apart))
      (stands-other m.test st.executed other (get_or m.positions other 0) n (h.positions_are other lt) (λ (at : thread_at m.test n ≡ Some other). apart (same_Some other thread (sym at ∙ of_thread)))))
      (cases_eq other thread)

-- The machine takes an enabled step.
module _ (m : Standing) (steps : List Step) (h : Stands m steps) (thread : ℕ) (enabled : IsTrue (is_enabled_after (setup_of m) steps (Execute thread))) where
  pub thread_within : thread < length m.test.threads
  thread_within = ⊎_elim (λ (lt : thread < length m.test.threads). lt) (λ (le : length m.test.threads ≤ thread). let isnt = enabled-beyond m steps h thread le in absurd (cc (isnt, enabled))) (cases_lt thread (length m.test.threads))

  pub operation_left : get_or m.positions thread 0 < first_node m.test thread + thread_length m.test thread
  operation_left = ltb-true (get_or m.positions thread 0) (thread_end m.test thread) (sym (enabled-within m steps h thread thread_within) ∙ enabled)

  pub node_within : get_or m.positions thread 0 < op_count m.test
  node_within = let end = thread_end-le m.test thread in let left = operation_left in omega (arith, left, end)

  next : next_of m.test (state_of m steps) thread ≡ Some (get_or m.positions thread 0)
  next =
      next_is m steps h thread thread_within
      ∙ ap (λ (b : Bool). cond b (Some (get_or m.positions thread 0)) None) (sym (enabled-within m steps h thread thread_within) ∙ enabled)

  leads_to : state_of m (steps ++ Execute thread ∷ []) ≡ executing Sc m.fault m.test (state_of m steps) (get_or m.positions thread 0)
  leads_to = final-push Sc m.fault m.test steps (Execute thread) ∙ ap (after_node Sc m.fault m.test (state_of m steps) (Execute thread)) next

  one_less : m.left - 1 ≡ steps_left Sc m.fault m.test (executing Sc m.fault m.test (state_of m steps) (get_or m.positions thread 0))
  one_less =
      let fell = falls Sc m.fault m.test (state_of m steps) (Execute thread) (coherent Sc m.fault m.test steps h.is_play) enabled in
      let there = ap (λ (found : Option ℕ). steps_left Sc m.fault m.test (after_node Sc m.fault m.test (state_of m steps) (Execute thread) found)) next in
      let left = h.shows.left_is in
      omega (arith, fell, there, left)

  pub one_step_left : 1 ≤ m.left
  one_step_left =
      let fell = falls Sc m.fault m.test (state_of m steps) (Execute thread) (coherent Sc m.fault m.test steps h.is_play) enabled in
      let left = h.shows.left_is in
      omega (arith, fell, left)

  shows_after : Shows (executing_at m thread (get_or m.positions thread 0)) (executing Sc m.fault m.test (state_of m steps) (get_or m.positions thread 0))
  shows_after =
      let n : ℕ = get_or m.positions thread 0 in
      let st : State = state_of m steps in
      let effects_are : (executing Sc m.fault m.test st n).effects ≡ st.effects ++ n ∷ [] = ap (λ (b : Bool). cond b st.effects (st.effects ++ n ∷ [])) (sc_idle m.fault m.test n) in
      let op = has_op m.test h.limits n node_within in
      let changed = memory_after m st h.shows thread n (executing Sc m.fault m.test st n).effects effects_are op.0 op.1 in
      let from = (h.shows.positions_are thread thread_within).from in
      let of_thread : thread_at m.test n ≡ Some thread = stands-thread_at m.test n thread (record { in_range = thread_within; from = from; to = operation_left }) in
      record {
        one_position_each = length-set m.positions thread (n + 1) ∙ h.shows.one_position_each;
        positions_are = positions_after m st h.shows thread n (executing Sc m.fault m.test st n).effects effects_are of_thread refl thread_within operation_left;
        now_are = changed.0;
        before_are = changed.1;
        loads_are = loads_after m st h.shows thread n (executing Sc m.fault m.test st n).effects effects_are op.0 op.1;
        left_is = one_less;
      }

  pub stands_after : Stands (executing_at m thread (get_or m.positions thread 0)) (steps ++ Execute thread ∷ [])
  stands_after = record {
    limits = h.limits;
    is_play = IsPlay-push Sc m.fault m.test steps (Execute thread) h.is_play enabled;
    shows = subst (Shows (executing_at m thread (get_or m.positions thread 0))) (sym leads_to) shows_after;
  }
