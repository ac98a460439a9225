-- What the fields of a machine hold.
use Rattle.std.specs.Prelude.{◌≡◌, ℕ, List, map, length, take}
use Rattle.orders.specs.Orders.{nodes_below}
use Rattle.test_lang.specs.declared.target.Fault.{Fault}
use Rattle.test_lang.specs.declared.step.Step.{Step}
use Rattle.test_lang.specs.Program.{Program}
use Rattle.sc_machine.specs.declared.threads.Thread.{Thread}
use Rattle.sc_machine.specs.Threads.{thread_end, open_numbers}
use Rattle.sc_machine.specs.Standing.{Standing, Stands}

-- what the fields show
abbrev pub standing_of : Program → Fault → List Thread → List ℕ → List ℕ → List ℕ → ℕ → Standing
standing_of test fault threads now before loads left = record { test = test; fault = fault; positions = map (λ thread. thread.next) threads; now = now; before = before; loads = loads; left = left }

-- The machine stands where some steps lead to, and each thread ends where it does in the test.
pub record IsMachine (m : Standing) (threads : List Thread) : Type 0 where
  pub ends_are : map (λ thread. thread.end) threads ≡ map (thread_end m.test) (nodes_below (length m.test.threads))
  pub stands_for : (steps : List Step) × Stands m steps

-- Its threads with an operation left stand at the front of a list.
pub record IsCounted (m : Standing) (threads : List Thread) (listed : List ℕ) (count : ℕ) : Type 0 where
  pub machine : IsMachine m threads
  pub room : length listed ≡ length threads
  pub counted : count ≡ length (open_numbers threads)
  pub listed_are : take count listed ≡ open_numbers threads
