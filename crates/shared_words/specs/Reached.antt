-- How far a play of the sequential machine without a fault has come, told by numbers.
use Rattle.std.specs.Prelude.{◌≡◌, ℕ, ◌+◌, ◌<◌, List, [], ◌∷◌, ◌++◌, map, filter, length, ◌==◌, if◌then◌else◌}
use Rattle.orders.specs.Orders.{nodes_below}
use Rattle.test_lang.specs.declared.op.Op.{Op}
use Rattle.test_lang.specs.declared.op.Op.TheVariants.{Load, Store, Fence}
use Rattle.test_lang.specs.declared.step.Step.{Step}
use Rattle.test_lang.specs.declared.target.Target.TheVariants.{Sc}
use Rattle.test_lang.specs.declared.target.Fault.TheVariants.{None}
use Rattle.test_lang.specs.Program.{Program, first_node}
use Rattle.test_lang.specs.Values.{is_load_at, value_of}
use Rattle.test_lang.specs.Play.States.{State, value_given, value_now}
use Rattle.test_lang.specs.Play.Plays.{IsPlay, final}
use Rattle.sim_core.specs.Positions.{StandsAt}

pub record Progress : Type 0 where
  -- how many operations each thread has done
  pub done : ℕ → ℕ
  -- the values of the loads among them, in order
  pub values : ℕ → List ℕ
  -- the value that each word has
  pub now : ℕ → ℕ

-- the loads among the first operations of a thread
abbrev pub first_loads : Program → ℕ → ℕ → List ℕ
first_loads p thread n = filter (is_load_at p) (map (λ index. first_node p thread + index) (nodes_below n))

-- The state of a play has these numbers: exactly the first done operations of each thread were executed, its loads among them gave these values, and memory has these.
pub record HasNumbers (p : Program) (st : State) (s : Progress) : Type 0 where
  pub done : (thread : ℕ) → thread < length p.threads → StandsAt p st.executed thread (first_node p thread + s.done thread)
  pub gave : (thread : ℕ) → thread < length p.threads → s.values thread ≡ map (value_given st.loads) (first_loads p thread (s.done thread))
  pub words : (word : ℕ) → s.now word ≡ value_now p st.effects word

-- What some play leads to.
pub record Reached (p : Program) (s : Progress) : Type 0 where
  pub steps : List Step
  pub is_play : IsPlay Sc None p steps
  pub numbers : HasNumbers p (final Sc None p steps) s

-- nothing is done
abbrev pub beginning : Progress
beginning = record { done = λ thread. 0; values = λ thread. []; now = λ word. 0 }

-- the function with another value at one number
abbrev pub put : {A : Type 0} → (ℕ → A) → ℕ → A → ℕ → A
put f n value k = if k == n then value else f k

-- the value that an operation finds, if it is a load
abbrev pub found_by : Op → (ℕ → ℕ) → List ℕ
found_by (Load word) now = now word ∷ []
found_by (Store word) now = []
found_by Fence now = []

-- what the words have behind an operation, whose value this is if it is a store
abbrev pub stored_by : Op → ℕ → (ℕ → ℕ) → ℕ → ℕ
stored_by (Load word) value now = now
stored_by (Store word) value now = put now word value
stored_by Fence value now = now

-- the thread does its next operation, which is this one
abbrev pub does : Program → Progress → ℕ → Op → Progress
does p s thread op = record {
  done = put s.done thread (s.done thread + 1);
  values = put s.values thread (s.values thread ++ found_by op s.now);
  now = stored_by op (value_of p (first_node p thread + s.done thread)) s.now;
}
