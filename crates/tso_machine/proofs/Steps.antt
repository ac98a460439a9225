-- What each step makes of a machine.
use Rattle.std.proofs.Common.{◌≡◌, ◌∙◌, ℕ, ◌+◌, ◌<◌, ◌≤◌, List, [], ◌∷◌, ◌++◌, Bool, true, false, not, cond, map, length, get_or, set, Contains, refl, sym, ap, subst, arith, inl, inr, Option, None, Some}
use Rattle.std.specs.Prelude.{filter, nat_lt, slice_get}
use Rattle.std.specs.List.{remove}
use Rattle.std.specs.Option.{option_map, option_map_or}
use Rattle.std.proofs.lemmas.Bool.{cases_eq}
use Rattle.std.proofs.lemmas.List.{get_or-set_same, get_or-set_other}
use Rattle.std.proofs.lemmas.List.Elements.{Contains-get_or}
use Rattle.std.proofs.lemmas.Option.{same_Some, slice_get-get_or, slice_get_within}
use Rattle.orders.specs.Orders.{nodes_below}
use Rattle.test_lang.specs.declared.op.Op.{Op}
use Rattle.test_lang.specs.declared.op.Op.TheVariants as ops
use Rattle.test_lang.specs.declared.op.FenceKind.TheVariants as kinds
use Rattle.test_lang.specs.declared.op.Action.{Action}
use Rattle.test_lang.specs.declared.op.Action.TheVariants.{Load, Store, Fence}
use Rattle.test_lang.specs.declared.step.Step.{Step}
use Rattle.test_lang.specs.declared.step.Step.TheVariants.{Execute, Drain, Perform}
use Rattle.test_lang.specs.declared.target.Target.{Target}
use Rattle.test_lang.specs.declared.target.Fault.{Fault}
use Rattle.test_lang.specs.Actions.{op_of}
use Rattle.test_lang.specs.Program.{Program, actions, nodes, action_at, at_action, op_at, first_node, thread_length, passes}
use Rattle.test_lang.specs.Values.{is_load, is_store, is_fence, is_load_at, is_fence_at, rank_of, value_of}
use Rattle.test_lang.specs.Play.States.{State, is_of_thread, next_of, buffer, value_before}
use Rattle.test_lang.specs.Play.Faults.{frees_fences}
use Rattle.test_lang.specs.Play.Machines.{may, is_enabled, value, waits, waits_at, executing, draining, after_node, after}
use Rattle.test_lang.proofs.ActionNodes.{node_of, node-action, op_at-action}
use Rattle.test_lang.proofs.Nodes.{is_load_at-op, is_store_at-op}
use Rattle.test_lang.proofs.PlayLaws.Firsts.{next_is}
use Rattle.test_lang.proofs.PlayLaws.Moves.{in_buffer, slice_get-Contains}
use Rattle.sim_core.specs.Setup.{state_after}
use Rattle.tso_machine.specs.declared.playing.StoreOrder.{StoreOrder}
use Rattle.tso_machine.specs.declared.playing.StoreOrder.TheVariants.{Total, Partial}
use Rattle.tso_machine.specs.Moments.{Moment, Shows, StandsBehind, position, target_of}
use Rattle.tso_machine.specs.Moves.{IsEnabled, IsNext, IsPlaying, Takes, thread_of}
use Rattle.tso_machine.specs.Queues.{Queues}
use Rattle.sim_core.proofs.BelowLists.{get_or-map_below, map-changed}
use Rattle.tso_machine.proofs.ListChanges.{map_same}
use Rattle.sim_core.proofs.PlaysOn.{final-push, IsPlay-push}
use Rattle.tso_machine.proofs.Turns.{ExecutesInOrder, IsInTurn, not_of, stands_of, position_own, position_other, next_stands, performs_none}
use Rattle.sim_core.proofs.MemoryAfter.{before-other, before-store, now-other, now-store}
use Rattle.sim_core.proofs.LoadsAfter.{loads-given}
use Rattle.tso_machine.proofs.EntriesAfter.{waiting, waits_own, waits_other, waits_not, leaves, leaves_other}
use Rattle.tso_machine.proofs.Bounds.{turn, effects_within, long_positions, buffer_at, value_at, next_by, next_here}

-- the state after a node was executed, by its kind
executing_is : (target : Target) (fault : Fault) (p : Program) (st : State) (n v : ℕ) (w l : Bool) → waits_at target fault p n ≡ w → is_load_at p n ≡ l → value target fault p st n ≡ v
    → executing target fault p st n ≡ record { executed = st.executed ++ n ∷ []; effects = cond w st.effects (st.effects ++ n ∷ []); loads = cond l ((n, v) ∷ st.loads) st.loads }
executing_is target fault p st n v w l waits load gives =
    ap (λ (b : Bool). record {
      executed = st.executed ++ n ∷ [];
      effects = cond b st.effects (st.effects ++ n ∷ []);
      loads = cond (is_load_at p n) ((n, value target fault p st n) ∷ st.loads) st.loads;
    }) waits
    ∙ ap (λ (b : Bool). record {
      executed = st.executed ++ n ∷ [];
      effects = cond w st.effects (st.effects ++ n ∷ []);
      loads = cond b ((n, value target fault p st n) ∷ st.loads) st.loads;
    }) load
    ∙ ap (λ (x : ℕ). record {
      executed = st.executed ++ n ∷ [];
      effects = cond w st.effects (st.effects ++ n ∷ []);
      loads = cond l ((n, x) ∷ st.loads) st.loads;
    }) gives

-- the positions after a thread executed its next operation
positions_after : (p : Program) (st : State) (t n : ℕ) → IsInTurn p st.executed → next_of p st t ≡ Some n → t < length p.threads
    → set (map (position p st.executed) (nodes_below (length p.threads))) t (n + 1) ≡ map (position p (st.executed ++ n ∷ [])) (nodes_below (length p.threads))
positions_after p st t n i next lt =
    let own = (next_is p st t n next).thread_is in
    let here : n + 1 ≡ position p (st.executed ++ n ∷ []) t = ap (λ (k : ℕ). k + 1) (next_stands p st t n i next) ∙ sym (position_own p st.executed n t own) in
    ap (set (map (position p st.executed) (nodes_below (length p.threads))) t) here
    ∙ sym (map-changed (position p st.executed) (position p (st.executed ++ n ∷ [])) (length p.threads) t lt (λ u below apart. position_other p st.executed n u (not_of p t u n own apart)))

-- with other fields
abbrev pub moved : Moment → List ℕ → List (List ℕ) → List ℕ → List ℕ → List ℕ → Moment
moved m positions buffers values values_before loads = record { setup = m.setup; positions = positions; buffers = buffers; values = values; values_before = values_before; loads = loads }

-- a step is taken where the state after it is shown
takes_shown : (m : Moment) (positions : List ℕ) (buffers : List (List ℕ)) (values values_before loads : List ℕ) (step : Step) → IsEnabled m step
    → ((steps : List Step) → StandsBehind m steps → Shows (moved m positions buffers values values_before loads) (after m.setup.target m.setup.fault m.setup.test (state_after m.setup steps) step))
    → Takes m (moved m positions buffers values values_before loads) step
takes_shown m positions buffers values values_before loads step enabled shows = record {
  same_setup = refl;
  stands = λ steps s. record {
    has_buffers = s.has_buffers;
    limits = s.limits;
    is_play = IsPlay-push m.setup.target m.setup.fault m.setup.test steps step s.is_play (enabled steps s);
    shows = subst (Shows (moved m positions buffers values values_before loads)) (sym (final-push m.setup.target m.setup.fault m.setup.test steps step)) (shows steps s);
  };
}

-- what a node's action tells

tested : (test : Action → Bool) (action : Action) (found : Option (ℕ × Action)) → option_map (λ (node : ℕ × Action). node.1) found ≡ Some action → option_map_or (λ (node : ℕ × Action). test node.1) found false ≡ test action
tested test action None e = absurd cc
tested test action (Some node) e = ap test (same_Some node.1 action e)

pub at_action-of : (test : Action → Bool) (p : Program) (n : ℕ) (action : Action) → action_at p n ≡ Some action → at_action (λ node. test node.1) p n ≡ test action
at_action-of test p n action e = tested test action (slice_get (actions p) n) e

pub waits_at-action : (target : Target) (fault : Fault) (p : Program) (n : ℕ) (action : Action) → action_at p n ≡ Some action → waits_at target fault p n ≡ waits target fault action
waits_at-action target fault p n action e = at_action-of (waits target fault) p n action e

load_idle : (order : StoreOrder) (fault : Fault) (word : ℕ) → waits (target_of order) fault (Load word) ≡ false
load_idle Total fault word = refl
load_idle Partial fault word = refl

pub store_waits : (order : StoreOrder) (fault : Fault) (word : ℕ) → waits (target_of order) fault (Store word) ≡ true
store_waits Total fault word = refl
store_waits Partial fault word = refl

pub fence_waits : (order : StoreOrder) (fault : Fault) → waits (target_of order) fault (Fence kinds.Store) ≡ not (frees_fences fault)
fence_waits Total fault = refl
fence_waits Partial fault = refl

pub full_idle : (order : StoreOrder) (fault : Fault) → waits (target_of order) fault (Fence kinds.Full) ≡ false
full_idle Total fault = refl
full_idle Partial fault = refl

pub load_fence_idle : (order : StoreOrder) (fault : Fault) → waits (target_of order) fault (Fence kinds.Load) ≡ false
load_fence_idle Total fault = refl
load_fence_idle Partial fault = refl

-- what waits is no load
entry_kind : (order : StoreOrder) (fault : Fault) (found : Option (ℕ × Action)) → option_map_or (λ (node : ℕ × Action). waits (target_of order) fault node.1) found false ≡ true
    → passes (λ node. is_load node.1) (option_map node_of found) ≡ false
entry_kind order fault None h = refl
entry_kind order fault (Some node) h = kind order node.1 h where
  kind : (order : StoreOrder) (action : Action) → waits (target_of order) fault action ≡ true → is_load (op_of action) ≡ false
  kind Total (Load word) h = absurd cc
  kind Total (Store word) h = refl
  kind Total (Fence k) h = refl
  kind Partial (Load word) h = absurd cc
  kind Partial (Store word) h = refl
  kind Partial (Fence k) h = refl

entry_no_load : (order : StoreOrder) (fault : Fault) (p : Program) (n : ℕ) → waits_at (target_of order) fault p n ≡ true → is_load_at p n ≡ false
entry_no_load order fault p n h = ap (passes (λ node. is_load node.1)) (node-action p n) ∙ entry_kind order fault (slice_get (actions p) n) h

fence_from : (found : Option (ℕ × Op)) → passes (λ node. is_fence node.1) found ≡ true → option_map (λ (node : ℕ × Op). node.1) found ≡ Some ops.Fence
fence_from None h = absurd cc
fence_from (Some node) h = kind node.1 h where
  kind : (op : Op) → is_fence op ≡ true → Some op ≡ Some ops.Fence
  kind (ops.Load word) h = absurd cc
  kind (ops.Store word) h = absurd cc
  kind ops.Fence h = refl

fence_op : (p : Program) (n : ℕ) → is_fence_at p n ≡ true → op_at p n ≡ Some ops.Fence
fence_op p n h = fence_from (slice_get (nodes p) n) h

-- the place that is drained has an entry

has_entry : (target : Target) (fault : Fault) (p : Program) (st : State) (t place : ℕ) (found : Option ℕ) → slice_get (buffer p st t) place ≡ found
    → option_map_or (may target fault p st (Drain t place)) found false ≡ true → place < length (buffer p st t)
has_entry target fault p st t place None e h = absurd cc
has_entry target fault p st t place (Some n) e h = slice_get_within (buffer p st t) place n e

pub enabled_place : (target : Target) (fault : Fault) (p : Program) (st : State) (t place : ℕ) → is_enabled target fault p st (Drain t place) ≡ true → place < length (buffer p st t)
enabled_place target fault p st t place h = has_entry target fault p st t place (slice_get (buffer p st t) place) refl h

-- the thread that executes has an operation
has_next : (target : Target) (fault : Fault) (p : Program) (st : State) (t : ℕ) (found : Option ℕ) → next_of p st t ≡ found
    → option_map_or (may target fault p st (Execute t)) found false ≡ true → (n : ℕ) × (next_of p st t ≡ Some n)
has_next target fault p st t None e h = absurd cc
has_next target fault p st t (Some n) e h = (n, e)

pub enabled_next : (target : Target) (fault : Fault) (p : Program) (st : State) (t : ℕ) → is_enabled target fault p st (Execute t) ≡ true → (n : ℕ) × (next_of p st t ≡ Some n)
enabled_next target fault p st t h = has_next target fault p st t (next_of p st t) refl h

-- the thread of an enabled step is one of the test
pub enabled_thread : (target : Target) (fault : Fault) (p : Program) (st : State) (step : Step) → ExecutesInOrder target → is_enabled target fault p st step ≡ true → thread_of step < length p.threads
enabled_thread target fault p st (Execute t) o h = let next = enabled_next target fault p st t h in (stands_of p t next.0 (next_is p st t next.0 next.1).thread_is).in_range
enabled_thread target fault p st (Drain t place) o h =
    let lt = enabled_place target fault p st t place h in
    let n = get_or (buffer p st t) place 0 in
    let entry = in_buffer p st t n (Contains-get_or (buffer p st t) place 0 lt) in
    (stands_of p t n entry.thread_is).in_range
enabled_thread target fault p st (Perform t k) o h = let no = performs_none target fault p st t k o in absurd cc

module _ (m : Moment) (order : StoreOrder) (e : m.setup.target ≡ target_of order) where
  waits_as : (n : ℕ) (b : Bool) → waits_at (target_of order) m.setup.fault m.setup.test n ≡ b → waits_at m.setup.target m.setup.fault m.setup.test n ≡ b
  waits_as n b h = ap (λ (target : Target). waits_at target m.setup.fault m.setup.test n) e ∙ h

  -- a thread executes
  module _ (t n : ℕ) (lt : t < length m.setup.test.threads) (next : IsNext m t n) (enabled : IsEnabled m (Execute t)) where
    executed_as : (steps : List Step) → StandsBehind m steps → (v : ℕ) (w l : Bool) → waits_at m.setup.target m.setup.fault m.setup.test n ≡ w → is_load_at m.setup.test n ≡ l
        → value m.setup.target m.setup.fault m.setup.test (state_after m.setup steps) n ≡ v → after m.setup.target m.setup.fault m.setup.test (state_after m.setup steps) (Execute t) ≡ record {
          executed = (state_after m.setup steps).executed ++ n ∷ [];
          effects = cond w (state_after m.setup steps).effects ((state_after m.setup steps).effects ++ n ∷ []);
          loads = cond l ((n, v) ∷ (state_after m.setup steps).loads) (state_after m.setup steps).loads;
        }
    executed_as steps s v w l waits load gives =
        ap (after_node m.setup.target m.setup.fault m.setup.test (state_after m.setup steps) (Execute t)) (next steps s)
        ∙ executing_is m.setup.target m.setup.fault m.setup.test (state_after m.setup steps) n v w l waits load gives

    stands_on : (steps : List Step) → StandsBehind m steps → set m.positions t (n + 1) ≡ map (position m.setup.test ((state_after m.setup steps).executed ++ n ∷ [])) (nodes_below (length m.setup.test.threads))
    stands_on steps s = ap (λ (xs : List ℕ). set xs t (n + 1)) s.shows.positions ∙ positions_after m.setup.test (state_after m.setup steps) t n (turn m order e steps s) (next steps s) lt

    new : (steps : List Step) → StandsBehind m steps → Contains (state_after m.setup steps).executed n → ⊥
    new steps s = (next_is m.setup.test (state_after m.setup steps) t n (next steps s)).new

    own : (steps : List Step) → StandsBehind m steps → is_of_thread m.setup.test t n ≡ true
    own steps s = (next_is m.setup.test (state_after m.setup steps) t n (next steps s)).thread_is

    -- what takes effect at once leaves the buffers
    buffers_stay : (steps : List Step) → StandsBehind m steps → m.buffers
        ≡ map (λ u. filter (waiting m.setup.test u ((state_after m.setup steps).effects ++ n ∷ [])) ((state_after m.setup steps).executed ++ n ∷ [])) (nodes_below (length m.setup.test.threads))
    buffers_stay steps s =
        s.shows.buffers
        ∙ sym (map_same (λ u. filter (waiting m.setup.test u ((state_after m.setup steps).effects ++ n ∷ [])) ((state_after m.setup steps).executed ++ n ∷ []))
        (buffer m.setup.test (state_after m.setup steps)) (nodes_below (length m.setup.test.threads))
        (λ u. waits_not m.setup.test (state_after m.setup steps).executed (state_after m.setup steps).effects n u (new steps s)))

    pub load_taken : (word v : ℕ) → action_at m.setup.test n ≡ Some (Load word)
        → ((steps : List Step) → StandsBehind m steps → v ≡ value m.setup.target m.setup.fault m.setup.test (state_after m.setup steps) n)
        → Takes m (moved m (set m.positions t (n + 1)) m.buffers m.values m.values_before (set m.loads (rank_of m.setup.test n) v)) (Execute t)
    load_taken word v is gives =
        let op = op_at-action m.setup.test n (Load word) is in
        let load : is_load_at m.setup.test n ≡ true = is_load_at-op m.setup.test n (ops.Load word) op in
        let idle = waits_as n false (waits_at-action (target_of order) m.setup.fault m.setup.test n (Load word) is ∙ load_idle order m.setup.fault word) in
        takes_shown m (set m.positions t (n + 1)) m.buffers m.values m.values_before (set m.loads (rank_of m.setup.test n) v) (Execute t) enabled
        (λ steps s. subst (Shows (moved m (set m.positions t (n + 1)) m.buffers m.values m.values_before (set m.loads (rank_of m.setup.test n) v)))
        (sym (executed_as steps s v false true idle load (sym (gives steps s))))
        (record {
          positions = stands_on steps s;
          buffers = buffers_stay steps s;
          values = s.shows.values ∙ sym (now-other m.setup.test (state_after m.setup steps).effects n (is_store_at-op m.setup.test n (ops.Load word) op));
          values_before = s.shows.values_before ∙ sym (before-other m.setup.test (state_after m.setup steps).effects n (is_store_at-op m.setup.test n (ops.Load word) op));
          loads = ap (λ (xs : List ℕ). set xs (rank_of m.setup.test n) v) s.shows.loads ∙ sym (loads-given m.setup.test (state_after m.setup steps).loads n v load);
        }))

    pub fence_taken : is_fence_at m.setup.test n ≡ true → waits_at m.setup.target m.setup.fault m.setup.test n ≡ false
        → Takes m (moved m (set m.positions t (n + 1)) m.buffers m.values m.values_before m.loads) (Execute t)
    fence_taken fence idle =
        let op = fence_op m.setup.test n fence in
        let load : is_load_at m.setup.test n ≡ false = is_load_at-op m.setup.test n ops.Fence op in
        takes_shown m (set m.positions t (n + 1)) m.buffers m.values m.values_before m.loads (Execute t) enabled
        (λ steps s. subst (Shows (moved m (set m.positions t (n + 1)) m.buffers m.values m.values_before m.loads))
        (sym (executed_as steps s (value m.setup.target m.setup.fault m.setup.test (state_after m.setup steps) n) false false idle load refl))
        (record {
          positions = stands_on steps s;
          buffers = buffers_stay steps s;
          values = s.shows.values ∙ sym (now-other m.setup.test (state_after m.setup steps).effects n (is_store_at-op m.setup.test n ops.Fence op));
          values_before = s.shows.values_before ∙ sym (before-other m.setup.test (state_after m.setup steps).effects n (is_store_at-op m.setup.test n ops.Fence op));
          loads = s.shows.loads;
        }))

    -- what waits goes to the end of its thread's buffer
    buffers_grow : (steps : List Step) → StandsBehind m steps → set m.buffers t (get_or m.buffers t [] ++ n ∷ [])
        ≡ map (λ u. filter (waiting m.setup.test u (state_after m.setup steps).effects) ((state_after m.setup steps).executed ++ n ∷ [])) (nodes_below (length m.setup.test.threads))
    buffers_grow steps s =
        let p = m.setup.test in
        let out = λ (there : Contains (state_after m.setup steps).effects n). new steps s (effects_within m order e steps s n there) in
        let grown : get_or m.buffers t [] ++ n ∷ [] ≡ filter (waiting p t (state_after m.setup steps).effects) ((state_after m.setup steps).executed ++ n ∷ []) =
        ap (λ (xs : List ℕ). xs ++ n ∷ []) (buffer_at m order e steps s t lt)
        ∙ sym (waits_own p (state_after m.setup steps).executed (state_after m.setup steps).effects n t out (own steps s)) in
        ap (λ (xs : List (List ℕ)). set xs t (get_or m.buffers t [] ++ n ∷ [])) s.shows.buffers
        ∙ ap (set (map (buffer p (state_after m.setup steps)) (nodes_below (length p.threads))) t) grown
        ∙ sym (map-changed (buffer p (state_after m.setup steps)) (λ u. filter (waiting p u (state_after m.setup steps).effects) ((state_after m.setup steps).executed ++ n ∷ [])) (length p.threads) t lt
        (λ u below apart. waits_other p (state_after m.setup steps).executed (state_after m.setup steps).effects n u (not_of p t u n (own steps s) apart)))

    pub entry_taken : waits_at m.setup.target m.setup.fault m.setup.test n ≡ true
        → Takes m (moved m (set m.positions t (n + 1)) (set m.buffers t (get_or m.buffers t [] ++ n ∷ [])) m.values m.values_before m.loads) (Execute t)
    entry_taken waits =
        let load = entry_no_load order m.setup.fault m.setup.test n (ap (λ (target : Target). waits_at target m.setup.fault m.setup.test n) (sym e) ∙ waits) in
        takes_shown m (set m.positions t (n + 1)) (set m.buffers t (get_or m.buffers t [] ++ n ∷ [])) m.values m.values_before m.loads (Execute t) enabled
        (λ steps s. subst (Shows (moved m (set m.positions t (n + 1)) (set m.buffers t (get_or m.buffers t [] ++ n ∷ [])) m.values m.values_before m.loads))
        (sym (executed_as steps s (value m.setup.target m.setup.fault m.setup.test (state_after m.setup steps) n) true false waits load refl))
        (record { positions = stands_on steps s; buffers = buffers_grow steps s; values = s.shows.values; values_before = s.shows.values_before; loads = s.shows.loads }))

  -- an entry is drained
  module _ (t place n : ℕ) (lt : t < length m.setup.test.threads) (within : place < length (get_or m.buffers t [])) (entry : get_or (get_or m.buffers t []) place 0 ≡ n) (enabled : IsEnabled m (Drain t place)) where
    entry_is : (steps : List Step) → StandsBehind m steps → slice_get (buffer m.setup.test (state_after m.setup steps) t) place ≡ Some n
    entry_is steps s =
        ap (λ (xs : List ℕ). slice_get xs place) (sym (buffer_at m order e steps s t lt)) ∙ slice_get-get_or (get_or m.buffers t []) place 0 within ∙ ap (λ (k : ℕ). Some k) entry

    drained_as : (steps : List Step) → StandsBehind m steps → after m.setup.target m.setup.fault m.setup.test (state_after m.setup steps) (Drain t place) ≡ draining (state_after m.setup steps) n
    drained_as steps s = ap (after_node m.setup.target m.setup.fault m.setup.test (state_after m.setup steps) (Drain t place)) (entry_is steps s)

    buffers_shrink : (steps : List Step) → StandsBehind m steps → set m.buffers t (remove (get_or m.buffers t []) place)
        ≡ map (λ u. filter (waiting m.setup.test u ((state_after m.setup steps).effects ++ n ∷ [])) (state_after m.setup steps).executed) (nodes_below (length m.setup.test.threads))
    buffers_shrink steps s =
        let p = m.setup.test in
        let own = (in_buffer p (state_after m.setup steps) t n (slice_get-Contains (buffer p (state_after m.setup steps) t) place n (entry_is steps s))).thread_is in
        let shrunk : remove (get_or m.buffers t []) place ≡ filter (waiting p t ((state_after m.setup steps).effects ++ n ∷ [])) (state_after m.setup steps).executed =
        ap (λ (xs : List ℕ). remove xs place) (buffer_at m order e steps s t lt)
        ∙ sym (leaves p (state_after m.setup steps).executed (state_after m.setup steps).effects n t place (turn m order e steps s).once (entry_is steps s)) in
        ap (λ (xs : List (List ℕ)). set xs t (remove (get_or m.buffers t []) place)) s.shows.buffers
        ∙ ap (set (map (buffer p (state_after m.setup steps)) (nodes_below (length p.threads))) t) shrunk
        ∙ sym (map-changed (buffer p (state_after m.setup steps)) (λ u. filter (waiting p u ((state_after m.setup steps).effects ++ n ∷ [])) (state_after m.setup steps).executed) (length p.threads) t lt
        (λ u below apart. leaves_other p (state_after m.setup steps).executed (state_after m.setup steps).effects n u (not_of p t u n own apart)))

    pub store_drained : (word : ℕ) → action_at m.setup.test n ≡ Some (Store word) → word < m.setup.test.words
        → Takes m (moved m m.positions (set m.buffers t (remove (get_or m.buffers t []) place)) (set m.values word (value_of m.setup.test n)) (set m.values_before word (get_or m.values word 0)) m.loads) (Drain t place)
    store_drained word is inside =
        let op = op_at-action m.setup.test n (Store word) is in
        takes_shown m m.positions (set m.buffers t (remove (get_or m.buffers t []) place)) (set m.values word (value_of m.setup.test n)) (set m.values_before word (get_or m.values word 0)) m.loads (Drain t place) enabled
        (λ steps s. subst (Shows (moved m m.positions (set m.buffers t (remove (get_or m.buffers t []) place)) (set m.values word (value_of m.setup.test n)) (set m.values_before word (get_or m.values word 0)) m.loads))
        (sym (drained_as steps s))
        (record {
          positions = s.shows.positions;
          buffers = buffers_shrink steps s;
          values = ap (λ (xs : List ℕ). set xs word (value_of m.setup.test n)) s.shows.values ∙ sym (now-store m.setup.test (state_after m.setup steps).effects n word op inside);
          values_before =
              ap (λ (xs : List ℕ). set xs word (get_or m.values word 0)) s.shows.values_before
              ∙ ap (set (map (value_before m.setup.test (state_after m.setup steps).effects) (nodes_below m.setup.test.words)) word) (value_at m order e steps s word inside)
              ∙ sym (before-store m.setup.test (state_after m.setup steps).effects n word op inside);
          loads = s.shows.loads;
        }))

    pub fence_drained : (op : Op) → op_at m.setup.test n ≡ Some op → is_store op ≡ false
        → Takes m (moved m m.positions (set m.buffers t (remove (get_or m.buffers t []) place)) m.values m.values_before m.loads) (Drain t place)
    fence_drained op is keeps =
        takes_shown m m.positions (set m.buffers t (remove (get_or m.buffers t []) place)) m.values m.values_before m.loads (Drain t place) enabled
        (λ steps s. subst (Shows (moved m m.positions (set m.buffers t (remove (get_or m.buffers t []) place)) m.values m.values_before m.loads))
        (sym (drained_as steps s))
        (record {
          positions = s.shows.positions;
          buffers = buffers_shrink steps s;
          values = s.shows.values ∙ sym (now-other m.setup.test (state_after m.setup steps).effects n (is_store_at-op m.setup.test n op is ∙ keeps));
          values_before = s.shows.values_before ∙ sym (before-other m.setup.test (state_after m.setup steps).effects n (is_store_at-op m.setup.test n op is ∙ keeps));
          loads = s.shows.loads;
        }))

-- an enabled thread's next operation stands at its position
pub position_next : (m : Moment) (order : StoreOrder) (e : m.setup.target ≡ target_of order) (steps : List Step) (s : StandsBehind m steps) (t : ℕ) → t < length m.setup.test.threads
    → is_enabled m.setup.target m.setup.fault m.setup.test (state_after m.setup steps) (Execute t) ≡ true → next_of m.setup.test (state_after m.setup steps) t ≡ Some (get_or m.positions t 0)
position_next m order e steps s t lt h =
    let next = enabled_next m.setup.target m.setup.fault m.setup.test (state_after m.setup steps) t h in
    next_by m order e steps s t lt ∙ at (nat_lt (get_or m.positions t 0) (first_node m.setup.test t + thread_length m.setup.test t)) (sym (next_by m order e steps s t lt) ∙ next.1) where
      at : (b : Bool) → {n : ℕ} → cond b (Some (get_or m.positions t 0)) None ≡ Some n → cond b (Some (get_or m.positions t 0)) None ≡ Some (get_or m.positions t 0)
      at true is = refl
      at false is = absurd cc

-- where each thread has room for its operations that are left

pub room_left : (m : Moment) (order : StoreOrder) (e : m.setup.target ≡ target_of order) (queues : Queues) → IsPlaying m queues → (t n : ℕ) → t < length m.setup.test.threads → IsNext m t n
    → get_or queues.pushed t 0 < get_or queues.rooms t 0
room_left m order e queues k t n lt next =
    let here = next_here m order e k.steps k.stands t n lt next in
    let at = here.0 in
    let below = here.1 in
    let pushed = k.pushed t lt in
    let room : get_or queues.rooms t 0 ≡ thread_length m.setup.test t =
    ap (λ (xs : List ℕ). get_or xs t 0) k.rooms ∙ get_or-map_below (thread_length m.setup.test) (length m.setup.test.threads) t 0 lt in
    omega (arith, at, below, pushed, room)

-- a thread that goes on has room for what is left
pub moves_on : (m : Moment) (order : StoreOrder) (e : m.setup.target ≡ target_of order) (queues : Queues) → IsPlaying m queues → (t n : ℕ) → t < length m.setup.test.threads → IsNext m t n
    → (u : ℕ) → u < length m.setup.test.threads → first_node m.setup.test u + get_or queues.pushed u 0 ≤ get_or (set m.positions t (n + 1)) u 0
moves_on m order e queues k t n lt next u below =
    let long = long_positions m order e k.steps k.stands in
    let here = (next_here m order e k.steps k.stands t n lt next).0 in
    let old = k.pushed u below in
    elim (cases_eq u t) [
      | inl same ↦
          let at : get_or (set m.positions t (n + 1)) u 0 ≡ n + 1 = ap (λ (x : ℕ). get_or (set m.positions t (n + 1)) x 0) same ∙ get_or-set_same m.positions t (n + 1) 0 (omega (arith, lt, long)) in
          let was : get_or m.positions u 0 ≡ n = ap (λ (x : ℕ). get_or m.positions x 0) same ∙ here in
          omega (arith, at, was, old)
      | inr other ↦ let at = get_or-set_other m.positions t u (n + 1) 0 other in omega (arith, at, old)
    ]

-- also where it pushed what it executed
pub pushes_on : (m : Moment) (order : StoreOrder) (e : m.setup.target ≡ target_of order) (queues : Queues) → IsPlaying m queues → (t n : ℕ) → t < length m.setup.test.threads → IsNext m t n
    → (u : ℕ) → u < length m.setup.test.threads → first_node m.setup.test u + get_or (set queues.pushed t (get_or queues.pushed t 0 + 1)) u 0 ≤ get_or (set m.positions t (n + 1)) u 0
pushes_on m order e queues k t n lt next u below =
    let long = long_positions m order e k.steps k.stands in
    let many = k.long in
    let here = (next_here m order e k.steps k.stands t n lt next).0 in
    let old = k.pushed u below in
    elim (cases_eq u t) [
      | inl same ↦
          let at : get_or (set m.positions t (n + 1)) u 0 ≡ n + 1 = ap (λ (x : ℕ). get_or (set m.positions t (n + 1)) x 0) same ∙ get_or-set_same m.positions t (n + 1) 0 (omega (arith, lt, long)) in
          let was : get_or m.positions u 0 ≡ n = ap (λ (x : ℕ). get_or m.positions x 0) same ∙ here in
          let more : get_or (set queues.pushed t (get_or queues.pushed t 0 + 1)) u 0 ≡ get_or queues.pushed t 0 + 1 =
          ap (λ (x : ℕ). get_or (set queues.pushed t (get_or queues.pushed t 0 + 1)) x 0) same ∙ get_or-set_same queues.pushed t (get_or queues.pushed t 0 + 1) 0 (omega (arith, lt, many)) in
          let own : get_or queues.pushed u 0 ≡ get_or queues.pushed t 0 = ap (λ (x : ℕ). get_or queues.pushed x 0) same in
          omega (arith, at, was, old, more, own)
      | inr other ↦
          let at = get_or-set_other m.positions t u (n + 1) 0 other in
          let stays = get_or-set_other queues.pushed t u (get_or queues.pushed t 0 + 1) 0 other in
          omega (arith, at, old, stays)
    ]
