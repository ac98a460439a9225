-- The fields of a machine when a thread executes its next operation.
use Rattle.std.proofs.Common.{◌≡◌, ◌∙◌, ℕ, ◌+◌, ◌-◌, ◌<◌, ◌≤◌, List, [], ◌∷◌, ◌++◌, map, set, length, get_or, Bool, true, false, cond, Some, arith, refl, sym, ap, subst}
use Rattle.std.specs.Prelude.{IsTrue, not}
use Rattle.std.proofs.lemmas.List.{get_or-map, map-set, set-get_or}
use Rattle.std.proofs.lemmas.Option.{slice_get-get_or}
use Rattle.orders.specs.Orders.{nodes_below}
use Rattle.test_lang.specs.declared.op.Op.TheVariants.{Load, Store, Fence}
use Rattle.test_lang.specs.declared.step.Step.{Step}
use Rattle.test_lang.specs.declared.step.Step.TheVariants.{Execute}
use Rattle.test_lang.specs.Program.{op_at, op_count}
use Rattle.test_lang.specs.Values.{is_load_at, is_store_at, rank_of, value_of, word_at}
use Rattle.test_lang.specs.Play.Faults.{is_stale}
use Rattle.test_lang.proofs.Nodes.{is_load_at-op, is_store_at-op}
use Rattle.sim_core.specs.Setup.{is_enabled_after}
use Rattle.sc_machine.specs.declared.threads.Thread.{Thread}
use Rattle.sc_machine.specs.Threads.{is_open, open_numbers, thread_end}
use Rattle.sc_machine.specs.Standing.{Standing, Stands, setup_of, given_by, executing_at}
use Rattle.sc_machine.specs.Machine.{IsMachine, standing_of}
use Rattle.sc_machine.proofs.Choosing.{as_many, enabled-open}
use Rattle.sc_machine.proofs.Listing.{same_open}
use Rattle.sc_machine.proofs.Executing.{node_within, one_step_left, stands_after, thread_within, word_at-op}

-- A thread may execute its next operation.
abbrev pub MayExecute : Standing → ℕ → Type 0
MayExecute m thread = (steps : List Step) → Stands m steps → IsTrue (is_enabled_after (setup_of m) steps (Execute thread))

-- what is asked of a machine is asked of what its fields show
pub asked : (view m : Standing) (thread : ℕ) → view ≡ m → MayExecute m thread → MayExecute view thread
asked view m thread is may = subst (λ (s : Standing). MayExecute s thread) (sym is) may

-- a thread behind its next operation
abbrev pub moved_on : Thread → Thread
moved_on t = record { next = t.next + 1; end = t.end }

module _ (m : Standing) (threads : List Thread) (k : IsMachine m threads) (positions_are : map (λ thread. thread.next) threads ≡ m.positions) (thread : ℕ) (may : MayExecute m thread) where
  stands : Stands m k.stands_for.0
  stands = k.stands_for.1

  pub in_threads : thread < length threads
  in_threads =
      let within = thread_within m k.stands_for.0 stands thread (may k.stands_for.0 stands) in
      let many = as_many m k.stands_for.0 stands threads (record { positions_are = positions_are; ends_are = k.ends_are }) in
      omega (arith, within, many)

  pub node_is : (t : Thread) → t ≡ get_or threads thread t → t.next ≡ get_or m.positions thread 0
  node_is t here =
      ap (λ (u : Thread). u.next) here
      ∙ sym (get_or-map (λ (u : Thread). u.next) threads thread t 0 in_threads)
      ∙ ap (λ (xs : List ℕ). get_or xs thread 0) positions_are

  end_is : (t : Thread) → t ≡ get_or threads thread t → t.end ≡ get_or (map (λ (u : Thread). u.end) threads) thread 0
  end_is t here = ap (λ (u : Thread). u.end) here ∙ sym (get_or-map (λ (u : Thread). u.end) threads thread t 0 in_threads)

  pub node_below : (t : Thread) → t ≡ get_or threads thread t → t.next < op_count m.test
  node_below t here =
      let below = node_within m k.stands_for.0 stands thread (may k.stands_for.0 stands) in
      let same = node_is t here in
      omega (arith, below, same)

  pub some_left : 1 ≤ m.left
  some_left = one_step_left m k.stands_for.0 stands thread (may k.stands_for.0 stands)

  pub few_threads : length threads ≤ 16
  few_threads =
      let many = as_many m k.stands_for.0 stands threads (record { positions_are = positions_are; ends_are = k.ends_are }) in
      let limits = stands.limits.threads in
      omega (arith, many, limits)

  pub open_here : (t : Thread) → t ≡ get_or threads thread t → is_open t ≡ true
  open_here t here =
      sym (enabled-open m k.stands_for.0 stands threads (record { positions_are = positions_are; ends_are = k.ends_are }) thread t (slice_get-get_or threads thread t in_threads ∙ ap Some (sym here)))
      ∙ may k.stands_for.0 stands

  -- the same threads have an operation left where this was not the thread's last
  pub listed_after : (t : Thread) → t ≡ get_or threads thread t → (closed : Bool) → closed ≡ not (is_open (moved_on t)) → closed ≡ false → open_numbers (set threads thread (moved_on t)) ≡ open_numbers threads
  listed_after t here closed told stays = same_open threads thread t (moved_on t) in_threads here (open_here t here) (at (is_open (moved_on t)) (sym told ∙ stays)) where
    at : (b : Bool) → not b ≡ false → b ≡ true
    at true e = refl
    at false e = absurd (cc e)

  -- What the fields become.
  module _ (t u : Thread) (here : t ≡ get_or threads thread t) (there : u ≡ get_or threads thread u) where
    abbrev moved : List Thread
    moved = set threads thread (record { next = t.next + 1; end = u.end })

    moved-positions : map (λ thread. thread.next) moved ≡ set m.positions thread (t.next + 1)
    moved-positions = map-set (λ (v : Thread). v.next) threads thread (record { next = t.next + 1; end = u.end }) ∙ ap (λ (xs : List ℕ). set xs thread (t.next + 1)) positions_are

    moved-ends : map (λ thread. thread.end) moved ≡ map (thread_end m.test) (nodes_below (length m.test.threads))
    moved-ends =
        map-set (λ (v : Thread). v.end) threads thread (record { next = t.next + 1; end = u.end })
        ∙ ap (set (map (λ (v : Thread). v.end) threads) thread) (end_is u there)
        ∙ set-get_or (map (λ (v : Thread). v.end) threads) thread 0
        ∙ k.ends_are

    -- The fields show the machine after the operation.
    pub record Become (now before loads : List ℕ) : Type 0 where
      pub is : standing_of m.test m.fault (set threads thread (record { next = t.next + 1; end = u.end })) now before loads (m.left - 1) ≡ executing_at m thread (get_or m.positions thread 0)
      pub machine : IsMachine (standing_of m.test m.fault (set threads thread (record { next = t.next + 1; end = u.end })) now before loads (m.left - 1)) (set threads thread (record { next = t.next + 1; end = u.end }))

    become : (now before loads : List ℕ) → now ≡ (executing_at m thread t.next).now → before ≡ (executing_at m thread t.next).before → loads ≡ (executing_at m thread t.next).loads → Become now before loads
    become now before loads now_are before_are loads_are =
        let same : standing_of m.test m.fault moved now before loads (m.left - 1) ≡ executing_at m thread (get_or m.positions thread 0) =
        ap (λ (ps : List ℕ). record { test = m.test; fault = m.fault; positions = ps; now = now; before = before; loads = loads; left = m.left - 1 }) moved-positions
        ∙ ap (λ (xs : List ℕ). record { test = m.test; fault = m.fault; positions = set m.positions thread (t.next + 1); now = xs; before = before; loads = loads; left = m.left - 1 }) now_are
        ∙ ap (λ (xs : List ℕ). record { test = m.test; fault = m.fault; positions = set m.positions thread (t.next + 1); now = (executing_at m thread t.next).now; before = xs; loads = loads; left = m.left - 1 }) before_are
        ∙ ap
        (λ (xs : List ℕ). record {
          test = m.test;
          fault = m.fault;
          positions = set m.positions thread (t.next + 1);
          now = (executing_at m thread t.next).now;
          before = (executing_at m thread t.next).before;
          loads = xs;
          left = m.left - 1;
        })
        loads_are
        ∙ ap (executing_at m thread) (node_is t here) in
        let after : Stands (executing_at m thread (get_or m.positions thread 0)) (k.stands_for.0 ++ Execute thread ∷ []) = stands_after m k.stands_for.0 stands thread (may k.stands_for.0 stands) in
        record {
          is = same;
          machine = record {
            ends_are = moved-ends;
            stands_for = (k.stands_for.0 ++ Execute thread ∷ [], subst (λ (s : Standing). Stands s (k.stands_for.0 ++ Execute thread ∷ [])) (sym same) after);
          };
        }

    -- memory and loads are as they were

    now_kept : is_store_at m.test t.next ≡ false → m.now ≡ (executing_at m thread t.next).now
    now_kept e = sym (ap (λ (b : Bool). cond b (set m.now (word_at m.test t.next) (value_of m.test t.next)) m.now) e)

    before_kept : is_store_at m.test t.next ≡ false → m.before ≡ (executing_at m thread t.next).before
    before_kept e = sym (ap (λ (b : Bool). cond b (set m.before (word_at m.test t.next) (get_or m.now (word_at m.test t.next) 0)) m.before) e)

    loads_kept : is_load_at m.test t.next ≡ false → m.loads ≡ (executing_at m thread t.next).loads
    loads_kept e = sym (ap (λ (b : Bool). cond b (set m.loads (rank_of m.test t.next) (given_by m t.next)) m.loads) e)

    pub after_fence : op_at m.test t.next ≡ Some Fence → Become m.now m.before m.loads
    after_fence e =
        let store = is_store_at-op m.test t.next Fence e in
        become m.now m.before m.loads (now_kept store) (before_kept store) (loads_kept (is_load_at-op m.test t.next Fence e))

    pub after_load : (x : ℕ) → op_at m.test t.next ≡ Some (Load x) → (value : ℕ) → value ≡ cond (is_stale m.fault t.next) (get_or m.before x 0) (get_or m.now x 0) → Become m.now m.before (set m.loads (rank_of m.test t.next) value)
    after_load x e value told =
        let store = is_store_at-op m.test t.next (Load x) e in
        let load = is_load_at-op m.test t.next (Load x) e in
        let given : value ≡ given_by m t.next = told ∙ ap (λ (w : ℕ). cond (is_stale m.fault t.next) (get_or m.before w 0) (get_or m.now w 0)) (sym (word_at-op m.test t.next (Load x) e)) in
        become m.now m.before (set m.loads (rank_of m.test t.next) value) (now_kept store) (before_kept store)
        (ap (set m.loads (rank_of m.test t.next)) given ∙ sym (ap (λ (b : Bool). cond b (set m.loads (rank_of m.test t.next) (given_by m t.next)) m.loads) load))

    pub after_store : (x : ℕ) → op_at m.test t.next ≡ Some (Store x) → Become (set m.now x (value_of m.test t.next)) (set m.before x (get_or m.now x 0)) m.loads
    after_store x e =
        let store = is_store_at-op m.test t.next (Store x) e in
        let word : x ≡ word_at m.test t.next = sym (word_at-op m.test t.next (Store x) e) in
        become (set m.now x (value_of m.test t.next)) (set m.before x (get_or m.now x 0)) m.loads
        (ap (λ (w : ℕ). set m.now w (value_of m.test t.next)) word ∙ sym (ap (λ (b : Bool). cond b (set m.now (word_at m.test t.next) (value_of m.test t.next)) m.now) store))
        (ap (λ (w : ℕ). set m.before w (get_or m.now w 0)) word ∙ sym (ap (λ (b : Bool). cond b (set m.before (word_at m.test t.next) (get_or m.now (word_at m.test t.next) 0)) m.before) store))
        (loads_kept (is_load_at-op m.test t.next (Store x) e))

    -- the same by what the code reads

    pub loaded : (x rank value now before : ℕ) → op_at m.test t.next ≡ Some (Load x) → rank ≡ rank_of m.test t.next → now ≡ get_or m.now x 0 → before ≡ get_or m.before x 0 → value ≡ cond (is_stale m.fault t.next) before now
        → Become m.now m.before (set m.loads rank value)
    loaded x rank value now before e rank_is now_is before_is told =
        subst (λ (r : ℕ). Become m.now m.before (set m.loads r value)) (sym rank_is)
        (after_load x e value
        (told ∙ ap (λ (v : ℕ). cond (is_stale m.fault t.next) v now) before_is ∙ ap (λ (v : ℕ). cond (is_stale m.fault t.next) (get_or m.before x 0) v) now_is))

    pub stored : (x value now : ℕ) → op_at m.test t.next ≡ Some (Store x) → value ≡ value_of m.test t.next → now ≡ get_or m.now x 0 → Become (set m.now x value) (set m.before x now) m.loads
    stored x value now e value_is now_is =
        subst (λ (v : ℕ). Become (set m.now x v) (set m.before x now) m.loads) (sym value_is)
        (subst (λ (v : ℕ). Become (set m.now x (value_of m.test t.next)) (set m.before x v) m.loads) (sym now_is) (after_store x e))
