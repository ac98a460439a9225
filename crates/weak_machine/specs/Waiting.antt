-- Which operations of a thread wait for which, under a fault, and few pairs that tell it.
use Rattle.std.specs.Prelude.{ℕ, List, Bool, false, not, ◌&&◌, ◌||◌, filter, map, Option}
use Rattle.std.specs.List.{list_any}
use Rattle.test_lang.specs.declared.op.MemModel.TheVariants.{Weak}
use Rattle.test_lang.specs.declared.op.Action.{Action}
use Rattle.test_lang.specs.declared.target.Fault.{Fault}
use Rattle.test_lang.specs.declared.target.Fault.TheVariants.{None, Stale, NoFence, Unordered, NoForward, LoadLoad}
use Rattle.test_lang.specs.Actions.{op_of}
use Rattle.test_lang.specs.Values.{is_load, is_fence}
use Rattle.test_lang.specs.Program.{Program, all_nodes}
use Rattle.test_lang.specs.Kept.{is_kept}
use Rattle.test_lang.specs.Runs.{base_store}
use Rattle.test_lang.specs.Play.Faults.{spares}

-- the fault takes the order of two actions away
abbrev pub spares_actions : Fault → Action → Action → Bool
spares_actions None a b = false
spares_actions (Stale node) a b = false
spares_actions NoFence a b = is_fence (op_of a) || is_fence (op_of b)
spares_actions Unordered a b = false
spares_actions NoForward a b = false
spares_actions LoadLoad a b = is_load (op_of a) && is_load (op_of b)

-- the second node waits until the first is performed: the weak model keeps their order, and the fault doesn't spare them
abbrev pub waits_for : Fault → Program → ℕ → ℕ → Bool
waits_for fault p a b = is_kept Weak p a b && not (spares fault p a b)

-- the node waits for one of the list
abbrev pub waits_for_any : Fault → Program → List ℕ → ℕ → Bool
waits_for_any fault p nodes b = list_any (λ c. waits_for fault p c b) nodes

-- the second node waits for the first, and for none that waits for the first
abbrev pub waits_directly : Fault → Program → ℕ → ℕ → Bool
waits_directly fault p a b = waits_for fault p a b && not (list_any (λ c. waits_for fault p a c && waits_for fault p c b) (all_nodes p))

-- For each node those that wait for it directly, rising. As long as what was performed waited for all that it had to, a node that waits directly for none that is left waits for none.
abbrev pub direct_waits : Fault → Program → List (List ℕ)
direct_waits fault p = map (λ a. filter (waits_directly fault p a) (all_nodes p)) (all_nodes p)

-- the last store to the word of each node before it in its own thread
abbrev pub base_stores : Program → List (Option ℕ)
base_stores p = map (base_store p) (all_nodes p)
