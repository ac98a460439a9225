-- What a step makes of a machine with buffers.
use Rattle.std.specs.Prelude.{◌≡◌, ℕ, ◌+◌, ◌<◌, ◌≤◌, List, [], ◌∷◌, ◌++◌, map, filter, length, slice_index, sum, All, IsTrue, Some}
use Rattle.orders.specs.Orders.{nodes_below}
use Rattle.test_lang.specs.declared.step.Step.{Step}
use Rattle.test_lang.specs.declared.step.Step.TheVariants.{Execute, Drain, Perform}
use Rattle.test_lang.specs.Program.{first_node, thread_length}
use Rattle.test_lang.specs.Play.States.{next_of, buffer}
use Rattle.test_lang.specs.Play.Choices.{steps_of}
use Rattle.sim_core.specs.Setup.{Setup, state_after, is_enabled_after}
use Rattle.tso_machine.specs.Moments.{Moment, StandsBehind}
use Rattle.tso_machine.specs.Queues.{Queues}

-- the step is enabled
abbrev pub IsEnabled : Moment → Step → Type 0
IsEnabled m step = (steps : List Step) → StandsBehind m steps → IsTrue (is_enabled_after m.setup steps step)

-- the node is the thread's next operation
abbrev pub IsNext : Moment → ℕ → ℕ → Type 0
IsNext m thread node = (steps : List Step) → StandsBehind m steps → next_of m.setup.test (state_after m.setup steps) thread ≡ Some node

-- The machine takes the step.
pub record Takes (old new : Moment) (step : Step) : Type 0 where
  pub same_setup : new.setup ≡ old.setup
  pub stands : (steps : List Step) → StandsBehind old steps → StandsBehind new (steps ++ step ∷ [])

abbrev pub thread_of : Step → ℕ
thread_of (Execute thread) = thread
thread_of (Drain thread place) = thread
thread_of (Perform thread index) = thread

-- the enabled steps of a thread
abbrev pub thread_choices : Setup → List Step → ℕ → List Step
thread_choices setup steps thread = filter (is_enabled_after setup steps) (steps_of setup.test (state_after setup steps) thread)

-- the places of its buffer that can be drained
abbrev pub drain_places : Setup → List Step → ℕ → List ℕ
drain_places setup steps thread =
    filter (λ place. is_enabled_after setup steps (Drain thread place)) (nodes_below (length (buffer setup.test (state_after setup steps) thread)))

-- how many choices each thread has
abbrev pub choice_counts : Setup → List Step → List ℕ
choice_counts setup steps = map (λ thread. length (thread_choices setup steps thread)) (nodes_below (length setup.test.threads))

-- What holds of a machine's fields at each moment. A thread has room for its operations that are left.
pub record IsPlaying (m : Moment) (queues : Queues) : Type 0 where
  pub steps : List Step
  pub stands : StandsBehind m steps
  pub rooms : queues.rooms ≡ map (thread_length m.setup.test) (nodes_below (length m.setup.test.threads))
  pub long : length queues.pushed ≡ length m.setup.test.threads
  pub pushed : (thread : ℕ) → thread < length m.setup.test.threads → first_node m.setup.test thread + slice_index queues.pushed thread ≤ slice_index m.positions thread

-- The choices are counted.
pub record IsCounted (m : Moment) (kept : List ℕ) (all : ℕ) : Type 0 where
  pub steps : List Step
  pub stands : StandsBehind m steps
  pub counts : kept ≡ choice_counts m.setup steps
  pub total : all ≡ sum kept
  pub few : All (λ count. count ≤ 2049) kept
