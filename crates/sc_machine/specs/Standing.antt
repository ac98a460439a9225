-- Where a machine stands, and what a step makes of it.
use Rattle.std.specs.Prelude.{◌≡◌, ℕ, ◌+◌, ◌-◌, ◌<◌, List, map, length, slice_index, slice_set, if◌then◌else◌}
use Rattle.orders.specs.Orders.{nodes_below}
use Rattle.test_lang.specs.declared.target.Target.TheVariants.{Sc}
use Rattle.test_lang.specs.declared.target.Fault.{Fault}
use Rattle.test_lang.specs.declared.step.Step.{Step}
use Rattle.test_lang.specs.Program.{Program, IsWithinLimits}
use Rattle.test_lang.specs.Values.{is_load_at, is_store_at, value_of, word_at, rank_of}
use Rattle.test_lang.specs.Play.States.{State, value_now, value_before, loads_of}
use Rattle.test_lang.specs.Play.Faults.{is_stale}
use Rattle.test_lang.specs.Play.Plays.{steps_left}
use Rattle.sim_core.specs.Setup.{Setup, state_after, IsPlayOf}
use Rattle.sim_core.specs.Positions.{StandsAt}

pub record Standing : Type 0 where
  pub test : Program
  pub fault : Fault
  -- by thread: the node of its next operation, or the one behind its last
  pub positions : List ℕ
  -- by word: its value now, and its value before
  pub now : List ℕ
  pub before : List ℕ
  -- by rank: the value that the load gave, or 0
  pub loads : List ℕ
  -- how many operations are left
  pub left : ℕ

abbrev pub setup_of : Standing → Setup
setup_of m = record { target = Sc; fault = m.fault; test = m.test }

-- where these steps lead to
abbrev pub state_of : Standing → List Step → State
state_of m steps = state_after (setup_of m) steps

-- The machine shows this state of its test.
pub record Shows (m : Standing) (st : State) : Type 0 where
  pub one_position_each : length m.positions ≡ length m.test.threads
  pub positions_are : (thread : ℕ) → thread < length m.test.threads → StandsAt m.test st.executed thread (slice_index m.positions thread)
  pub now_are : m.now ≡ map (value_now m.test st.effects) (nodes_below m.test.words)
  pub before_are : m.before ≡ map (value_before m.test st.effects) (nodes_below m.test.words)
  pub loads_are : m.loads ≡ loads_of m.test st
  pub left_is : m.left ≡ steps_left Sc m.fault m.test st

-- The machine stands where these steps lead to: they are a play, and all that it shows is that of the play.
pub record Stands (m : Standing) (steps : List Step) : Type 0 where
  pub limits : IsWithinLimits m.test
  pub is_play : IsPlayOf (setup_of m) steps
  pub shows : Shows m (state_of m steps)

-- what a load gives
abbrev pub given_by : Standing → ℕ → ℕ
given_by m load = if is_stale m.fault load then slice_index m.before (word_at m.test load) else slice_index m.now (word_at m.test load)

-- the machine after the thread executed the operation
abbrev pub executing_at : Standing → ℕ → ℕ → Standing
executing_at m thread n = record {
  test = m.test;
  fault = m.fault;
  positions = slice_set m.positions thread (n + 1);
  now = if is_store_at m.test n then slice_set m.now (word_at m.test n) (value_of m.test n) else m.now;
  before = if is_store_at m.test n then slice_set m.before (word_at m.test n) (slice_index m.now (word_at m.test n)) else m.before;
  loads = if is_load_at m.test n then slice_set m.loads (rank_of m.test n) (given_by m n) else m.loads;
  left = m.left - 1;
}
