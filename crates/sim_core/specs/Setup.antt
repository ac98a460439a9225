-- What a machine is and what it plays, and where a list of steps leads to from the opening state.
use Rattle.std.specs.Prelude.{ℕ, List, Bool}
use Rattle.test_lang.specs.declared.target.Target.{Target}
use Rattle.test_lang.specs.declared.target.Fault.{Fault}
use Rattle.test_lang.specs.declared.step.Step.{Step}
use Rattle.test_lang.specs.Program.{Program}
use Rattle.test_lang.specs.Play.States.{State, loads_of}
use Rattle.test_lang.specs.Play.Machines.{is_enabled}
use Rattle.test_lang.specs.Play.Plays as plays
use Rattle.test_lang.specs.Play.Choices as all

pub record Setup : Type 0 where
  pub target : Target
  pub fault : Fault
  pub test : Program

-- after these steps: the state, the choices, whether a step is enabled, whether all is done, the loads' values, the nodes in the order in which they took effect, and how many steps are left

abbrev pub state_after : Setup → List Step → State
state_after setup steps = plays.final setup.target setup.fault setup.test steps

abbrev pub choices_after : Setup → List Step → List Step
choices_after setup steps = all.choices setup.target setup.fault setup.test (state_after setup steps)

abbrev pub is_enabled_after : Setup → List Step → Step → Bool
is_enabled_after setup steps step = is_enabled setup.target setup.fault setup.test (state_after setup steps) step

abbrev pub is_done_after : Setup → List Step → Bool
is_done_after setup steps = plays.is_done setup.test (state_after setup steps)

abbrev pub run_after : Setup → List Step → List ℕ
run_after setup steps = loads_of setup.test (state_after setup steps)

abbrev pub effects_after : Setup → List Step → List ℕ
effects_after setup steps = (state_after setup steps).effects

abbrev pub steps_left_after : Setup → List Step → ℕ
steps_left_after setup steps = plays.steps_left setup.target setup.fault setup.test (state_after setup steps)

-- the steps are a play, and it is done

abbrev pub IsPlayOf : Setup → List Step → Type 0
IsPlayOf setup steps = plays.IsPlay setup.target setup.fault setup.test steps

abbrev pub IsDonePlayOf : Setup → List Step → Type 0
IsDonePlayOf setup steps = plays.IsDonePlay setup.target setup.fault setup.test steps
