-- What the fields of a machine hold.
use Rattle.std.specs.Prelude.{◌≡◌, ℕ, List, Bool, Option}
use Rattle.test_lang.specs.declared.target.Target.TheVariants.{Weak}
use Rattle.test_lang.specs.declared.step.Step.{Step}
use Rattle.test_lang.specs.Program.{op_count}
use Rattle.sim_core.specs.Setup.{Setup}
use Rattle.weak_machine.specs.NodeSets.{no_flags}
use Rattle.weak_machine.specs.Waiting.{direct_waits, base_stores}
use Rattle.weak_machine.specs.Progress.{IsProgress}
use Rattle.weak_machine.specs.Standing.{Standing, Stands}

abbrev pub setup_of : Standing → Setup
setup_of m = record { target = Weak; fault = m.fault; test = m.test }

-- flags of the performed nodes, how many lists each node misses, flags of the nodes that can be performed, and how many are left
pub record Counts : Type 0 where
  pub performed : List Bool
  pub missing : List ℕ
  pub ready : List Bool
  pub left : ℕ

abbrev pub Tells : List (List ℕ) → Counts → Type 0
Tells lists counts = IsProgress lists counts.performed counts.missing counts.ready counts.left

-- The machine stands where some steps lead to. Its tables are those of its test and fault, and its counts are those of the performed nodes and of none.
pub record IsMachine (m : Standing) (waiting : List (List ℕ)) (bases : List (Option ℕ)) (current opening : Counts) : Type 0 where
  pub waiting_is : waiting ≡ direct_waits m.fault m.test
  pub bases_are : bases ≡ base_stores m.test
  pub current_told : Tells waiting current
  pub opening_told : Tells waiting opening
  pub current_is : current.performed ≡ m.performed
  pub opening_is : opening.performed ≡ no_flags (op_count m.test)
  pub stands_for : (steps : List Step) × Stands m steps
