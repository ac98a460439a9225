-- Where a machine stands.
use Rattle.std.specs.Prelude.{◌≡◌, ℕ, List, Bool, true, false, not, ◌&&◌, map, slice_index, slice_set, if◌then◌else◌}
use Rattle.std.specs.Option.{option_map_or}
use Rattle.orders.specs.Orders.{nodes_below}
use Rattle.test_lang.specs.declared.target.Target.TheVariants.{Weak}
use Rattle.test_lang.specs.declared.target.Fault.{Fault}
use Rattle.test_lang.specs.declared.step.Step.{Step}
use Rattle.test_lang.specs.Program.{Program, IsWithinLimits, all_nodes}
use Rattle.test_lang.specs.Values.{is_load_at, is_store_at, value_of, word_at, rank_of}
use Rattle.test_lang.specs.Runs.{base, base_store}
use Rattle.test_lang.specs.Play.States.{State, has, value_now, value_before, loads_of}
use Rattle.test_lang.specs.Play.Faults.{is_stale, forwards_nothing}
use Rattle.test_lang.specs.Play.Plays.{IsPlay, final}
use Rattle.weak_machine.specs.NodeSets.{has_flag}

-- a flag for each node that was performed, the values now and before by word, and the values of the loads by rank
pub record Standing : Type 0 where
  pub test : Program
  pub fault : Fault
  pub performed : List Bool
  pub values : List ℕ
  pub values_before : List ℕ
  pub loads : List ℕ

-- where the play of these steps leads to
abbrev pub state_of : Standing → List Step → State
state_of m steps = final Weak m.fault m.test steps

-- The machine stands where these steps lead to: they are a play, and all that it has is that of the play.
pub record Stands (m : Standing) (steps : List Step) : Type 0 where
  pub limits : IsWithinLimits m.test
  pub is_play : IsPlay Weak m.fault m.test steps
  pub performed_are : m.performed ≡ map (has (state_of m steps).effects) (all_nodes m.test)
  pub values_are : m.values ≡ map (value_now m.test (state_of m steps).effects) (nodes_below m.test.words)
  pub values_before_are : m.values_before ≡ map (value_before m.test (state_of m steps).effects) (nodes_below m.test.words)
  pub loads_are : m.loads ≡ loads_of m.test (state_of m steps)

-- What performing a node does.

-- what the load finds in memory
abbrev pub found_in_memory : Standing → ℕ → ℕ
found_in_memory m load = if is_stale m.fault load then slice_index m.values_before (word_at m.test load) else slice_index m.values (word_at m.test load)

-- the load's base is a store that wasn't performed
abbrev pub base_is_left : Standing → ℕ → Bool
base_is_left m load = option_map_or (λ store. not (has_flag m.performed store)) (base_store m.test load) false

-- what the load gives
abbrev pub given_by : Standing → ℕ → ℕ
given_by m load = if base_is_left m load && not (forwards_nothing m.fault) then base m.test load else found_in_memory m load

abbrev pub performing : Standing → ℕ → Standing
performing m n = record {
  test = m.test;
  fault = m.fault;
  performed = slice_set m.performed n true;
  values = if is_store_at m.test n then slice_set m.values (word_at m.test n) (value_of m.test n) else m.values;
  values_before = if is_store_at m.test n then slice_set m.values_before (word_at m.test n) (slice_index m.values (word_at m.test n)) else m.values_before;
  loads = if is_load_at m.test n then slice_set m.loads (rank_of m.test n) (given_by m n) else m.loads;
}
