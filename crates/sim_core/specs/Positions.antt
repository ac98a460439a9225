-- Where a thread stands whose operations are executed in order.
use Rattle.std.specs.Prelude.{◌≡◌, ℕ, ◌+◌, ◌<◌, ◌≤◌, List, length, Some, nat_lt}
use Rattle.test_lang.specs.Program.{Program, first_node, thread_at, thread_length}
use Rattle.test_lang.specs.Play.States.{has}

-- The position is the node of the thread's next operation, or the one behind its last: exactly its operations before it were executed.
pub record StandsAt (p : Program) (executed : List ℕ) (thread position : ℕ) : Type 0 where
  pub in_range : thread < length p.threads
  pub from : first_node p thread ≤ position
  pub to : position ≤ first_node p thread + thread_length p thread
  pub executed_are : (n : ℕ) → thread_at p n ≡ Some thread → has executed n ≡ nat_lt n position
