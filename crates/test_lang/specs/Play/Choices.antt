-- The choices of a machine: its enabled steps in order.
use Rattle.std.specs.Prelude.{ℕ, List, ◌∷◌, ◌++◌, map, filter, length}
use Rattle.std.specs.List.{flat_map}
use Rattle.orders.specs.Orders.{nodes_below}
use Rattle.test_lang.specs.declared.target.Target.{Target}
use Rattle.test_lang.specs.declared.target.Fault.{Fault}
use Rattle.test_lang.specs.declared.step.Step.{Step}
use Rattle.test_lang.specs.declared.step.Step.TheVariants.{Execute, Drain, Perform}
use Rattle.test_lang.specs.Program.{Program, thread_length}
use Rattle.test_lang.specs.Play.States.{State, buffer}
use Rattle.test_lang.specs.Play.Machines.{is_enabled}

-- the steps of a thread: that of its next operation, those of its buffer by place, and those of its operations by index
abbrev pub steps_of : Program → State → ℕ → List Step
steps_of p st thread = Execute thread ∷ (map (Drain thread) (nodes_below (length (buffer p st thread))) ++ map (Perform thread) (nodes_below (thread_length p thread)))

-- The enabled steps, by rising thread.
abbrev pub choices : Target → Fault → Program → State → List Step
choices target fault p st = filter (is_enabled target fault p st) (flat_map (steps_of p st) (nodes_below (length p.threads)))
