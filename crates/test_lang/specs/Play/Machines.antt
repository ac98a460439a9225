-- The machines: which steps are enabled, what a load gives, and what a step does. Each machine can carry planted faults.
use Rattle.std.specs.Prelude.{ℕ, ◌+◌, List, [], ◌∷◌, ◌++◌, map, filter, take, Bool, true, false, not, ◌&&◌, ◌||◌, ◌==◌, nat_lt, if◌then◌else◌, Option, Some, None, slice_get}
use Rattle.std.specs.List.{list_all, list_any}
use Rattle.std.specs.Option.{option_map_or}
use Rattle.test_lang.specs.declared.op.Action.{Action}
use Rattle.test_lang.specs.declared.op.MemModel.{MemModel}
use Rattle.test_lang.specs.declared.op.MemModel.TheVariants as models
use Rattle.test_lang.specs.declared.target.Target.{Target}
use Rattle.test_lang.specs.declared.target.Target.TheVariants.{Sc, Tso, Pso, Weak}
use Rattle.test_lang.specs.declared.target.Fault.{Fault}
use Rattle.test_lang.specs.declared.step.Step.{Step}
use Rattle.test_lang.specs.declared.step.Step.TheVariants.{Execute, Drain, Perform}
use Rattle.test_lang.specs.Actions.{op_of, is_full_fence, is_store_fence}
use Rattle.test_lang.specs.Program.{Program, all_nodes, at_action, at_actions, first_node, thread_length}
use Rattle.test_lang.specs.Values.{is_store, same_word, is_load_at, same_thread, value_of, word_at}
use Rattle.test_lang.specs.Kept.{is_kept}
use Rattle.test_lang.specs.Runs.{base, base_store, writes_for}
use Rattle.test_lang.specs.Play.States.{State, has, next_of, buffer, last_value, value_now, value_before}
use Rattle.test_lang.specs.Play.Faults.{is_stale, forwards_nothing, drains_any, frees_fences, spares}

-- the memory model of a machine
abbrev pub model_of : Target → MemModel
model_of Sc = models.Sc
model_of Tso = models.Tso
model_of Pso = models.Pso
model_of Weak = models.Weak

-- Steps.

-- the node that a step is about, if there is one
abbrev pub node_of : Program → State → Step → Option ℕ
node_of p st (Execute thread) = next_of p st thread
node_of p st (Drain thread place) = slice_get (buffer p st thread) place
node_of p st (Perform thread index) = if nat_lt index (thread_length p thread) then Some (first_node p thread + index) else None

abbrev pub is_nil : List ℕ → Bool
is_nil [] = true
is_nil (n ∷ more) = false

-- a full fence waits until its thread's buffer is empty
abbrev pub is_unfenced : Fault → Program → State → ℕ → ℕ → Bool
is_unfenced fault p st thread n = (not (at_action (λ node. is_full_fence node.1) p n) || frees_fences fault) || is_nil (buffer p st thread)

-- in a buffer without order, what may not be passed: a store fence passes nothing and nothing passes it, and no store passes one to its word
abbrev pub holds_back : Action → Action → Bool
holds_back first second = (is_store_fence first || is_store_fence second) || same_word (op_of first) (op_of second)

abbrev pub holds_back_at : Program → ℕ → ℕ → Bool
holds_back_at p a b = at_actions (λ first second. holds_back first.1 second.1) p a b

-- the operation can be performed: it wasn't yet, and all that it waits for was
abbrev pub is_ready : Fault → Program → State → ℕ → Bool
is_ready fault p st n =
    not (has st.effects n) && list_all (λ a. not (is_kept models.Weak p a n && not (spares fault p a n)) || has st.effects a) (all_nodes p)

-- whether the machine has steps of this kind, and may do this one at its node
abbrev pub may : Target → Fault → Program → State → Step → ℕ → Bool
may Sc fault p st (Execute thread) n = true
may Sc fault p st (Drain thread place) n = false
may Sc fault p st (Perform thread index) n = false
may Tso fault p st (Execute thread) n = is_unfenced fault p st thread n
may Tso fault p st (Drain thread place) n = (place == 0) || drains_any fault
may Tso fault p st (Perform thread index) n = false
may Pso fault p st (Execute thread) n = is_unfenced fault p st thread n
may Pso fault p st (Drain thread place) n = not (list_any (λ a. holds_back_at p a n) (take place (buffer p st thread))) || drains_any fault
may Pso fault p st (Perform thread index) n = false
may Weak fault p st (Execute thread) n = false
may Weak fault p st (Drain thread place) n = false
may Weak fault p st (Perform thread index) n = is_ready fault p st n

-- Whether a step is enabled.
abbrev pub is_enabled : Target → Fault → Program → State → Step → Bool
is_enabled target fault p st step = option_map_or (may target fault p st step) (node_of p st step) false

-- Loads.

-- the value of a load that reads memory
abbrev pub memory : Fault → Program → State → ℕ → ℕ
memory fault p st load = if is_stale fault load then value_before p st.effects (word_at p load) else value_now p st.effects (word_at p load)

-- the stores of the load's own buffer to its word, the oldest first
abbrev pub buffered : Program → State → ℕ → List ℕ
buffered p st load = filter (λ n. (writes_for p load n && same_thread p load n) && not (has st.effects n)) st.executed

-- the value of the last of them, or the other value where there is none
abbrev pub forwarded : Program → List ℕ → ℕ → ℕ
forwarded p [] other = other
forwarded p (n ∷ more) other = last_value (map (value_of p) (n ∷ more))

-- the load's base is a store that hasn't taken effect
abbrev pub base_waits : Program → List ℕ → ℕ → Bool
base_waits p effects load = option_map_or (λ store. not (has effects store)) (base_store p load) false

-- The value that a load gives.
abbrev pub value : Target → Fault → Program → State → ℕ → ℕ
value Sc fault p st load = memory fault p st load
value Tso fault p st load = if forwards_nothing fault then memory fault p st load else forwarded p (buffered p st load) (memory fault p st load)
value Pso fault p st load = if forwards_nothing fault then memory fault p st load else forwarded p (buffered p st load) (memory fault p st load)
value Weak fault p st load = if base_waits p st.effects load && not (forwards_nothing fault) then base p load else memory fault p st load

-- What a step does.

-- a store, and a store fence, that is executed waits in a buffer
abbrev pub waits : Target → Fault → Action → Bool
waits Sc fault action = false
waits Tso fault action = is_store (op_of action) || (is_store_fence action && not (frees_fences fault))
waits Pso fault action = is_store (op_of action) || (is_store_fence action && not (frees_fences fault))
waits Weak fault action = false

abbrev pub waits_at : Target → Fault → Program → ℕ → Bool
waits_at target fault p n = at_action (λ node. waits target fault node.1) p n

-- the node is executed, and takes effect unless it waits
abbrev pub executing : Target → Fault → Program → State → ℕ → State
executing target fault p st n = record {
  executed = st.executed ++ n ∷ [];
  effects = if waits_at target fault p n then st.effects else st.effects ++ n ∷ [];
  loads = if is_load_at p n then (n, value target fault p st n) ∷ st.loads else st.loads;
}

-- the node takes effect
abbrev pub draining : State → ℕ → State
draining st n = record { executed = st.executed; effects = st.effects ++ n ∷ []; loads = st.loads }

abbrev pub after_node : Target → Fault → Program → State → Step → Option ℕ → State
after_node target fault p st step None = st
after_node target fault p st (Execute thread) (Some n) = executing target fault p st n
after_node target fault p st (Drain thread place) (Some n) = draining st n
after_node target fault p st (Perform thread index) (Some n) = executing target fault p st n

-- The state after a step that is enabled.
abbrev pub after : Target → Fault → Program → State → Step → State
after target fault p st step = after_node target fault p st step (node_of p st step)
