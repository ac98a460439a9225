-- A machine with buffers at a moment of a play.
use Rattle.std.specs.Prelude.{◌≡◌, ℕ, ◌+◌, List, map, length, count_by}
use Rattle.orders.specs.Orders.{nodes_below}
use Rattle.test_lang.specs.declared.step.Step.{Step}
use Rattle.test_lang.specs.declared.target.Target.{Target}
use Rattle.test_lang.specs.declared.target.Target.TheVariants.{Sc, Tso, Pso, Weak}
use Rattle.test_lang.specs.Program.{Program, IsWithinLimits, first_node}
use Rattle.test_lang.specs.Play.States.{State, is_of_thread, buffer, value_now, value_before, loads_of}
use Rattle.sim_core.specs.Setup.{Setup, IsPlayOf, state_after}
use Rattle.test_lang.specs.declared.target.Fault.{Fault}
use Rattle.tso_machine.specs.declared.playing.StoreOrder.{StoreOrder}
use Rattle.tso_machine.specs.declared.playing.StoreOrder.TheVariants.{Total, Partial}
use Rattle.tso_machine.specs.Queues.{Queues}

-- the machine whose stores leave a buffer in this order
abbrev pub target_of : StoreOrder → Target
target_of Total = Tso
target_of Partial = Pso

pub record Moment : Type 0 where
  pub setup : Setup
  -- by thread: the node of its next operation, or the one behind its last
  pub positions : List ℕ
  -- by thread: the nodes that wait in its buffer, the oldest first
  pub buffers : List (List ℕ)
  -- by word: its value now, and its value before
  pub values : List ℕ
  pub values_before : List ℕ
  -- by rank: the value that the load gave, or 0
  pub loads : List ℕ

-- what a machine's fields show
abbrev pub moment_of : StoreOrder → Fault → Program → List ℕ → Queues → List ℕ → List ℕ → List ℕ → Moment
moment_of order fault test positions queues values values_before loads = record {
  setup = record { target = target_of order; fault = fault; test = test };
  positions = positions;
  buffers = queues.entries;
  values = values;
  values_before = values_before;
  loads = loads;
}

-- where a thread stands: behind as many of its operations as were executed
abbrev pub position : Program → List ℕ → ℕ → ℕ
position p executed thread = first_node p thread + count_by (is_of_thread p thread) executed

-- The machine shows this state of its test.
pub record Shows (m : Moment) (st : State) : Type 0 where
  pub positions : m.positions ≡ map (position m.setup.test st.executed) (nodes_below (length m.setup.test.threads))
  pub buffers : m.buffers ≡ map (buffer m.setup.test st) (nodes_below (length m.setup.test.threads))
  pub values : m.values ≡ map (value_now m.setup.test st.effects) (nodes_below m.setup.test.words)
  pub values_before : m.values_before ≡ map (value_before m.setup.test st.effects) (nodes_below m.setup.test.words)
  pub loads : m.loads ≡ loads_of m.setup.test st

-- machines with buffers
abbrev pub HasBuffers : Target → Type 0
HasBuffers Sc = ⊥
HasBuffers Tso = Unit {0}
HasBuffers Pso = Unit {0}
HasBuffers Weak = ⊥

-- The machine stands behind these steps.
pub record StandsBehind (m : Moment) (steps : List Step) : Type 0 where
  pub has_buffers : HasBuffers m.setup.target
  pub limits : IsWithinLimits m.setup.test
  pub is_play : IsPlayOf m.setup steps
  pub shows : Shows m (state_after m.setup steps)
