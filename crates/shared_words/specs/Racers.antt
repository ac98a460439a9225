-- Threads of a race as contracts see them.
use Rattle.std.specs.Prelude.{ℕ, zero, suc, List, [], Bool, true, false, length}
use Rattle.atomic_table.specs.Seated.{TableId}
use Rattle.test_lang.specs.Program.{Program, thread_length}
use Rattle.shared_words.specs.declared.rule.Part.{Part}
use Rattle.shared_words.specs.declared.rule.View.{View}
use Rattle.shared_words.specs.Steps.{own}

pub record RacerState : Type 0 where
  -- on which table it races
  pub table : TableId
  -- how many threads were made, in the thread 0; otherwise 0
  pub made : ℕ
  pub number : ℕ
  -- whether it has arrived
  pub arrived : Bool
  -- how many of its operations it has passed
  pub passed : ℕ
  -- the values of the loads among them
  pub values : List ℕ

abbrev pub racer_state : TableId → View → RacerState
racer_state z v = record { table = z; made = v.made; number = (own v).number; arrived = (own v).arrived; passed = (own v).passed; values = (own v).values }

abbrev pub part_of : RacerState → Part
part_of r = record { number = r.number; arrived = r.arrived; passed = r.passed; values = r.values }

-- how many of n threads a thread has made
abbrev pub made_by : ℕ → ℕ → ℕ
made_by n zero = n
made_by n (suc k) = 0

-- a thread that has done nothing, where n are made
abbrev pub fresh : TableId → ℕ → ℕ → RacerState
fresh z n k = record { table = z; made = made_by n k; number = k; arrived = false; passed = 0; values = [] }

-- a thread of the test that has passed all its operations, and found these values
abbrev pub finished : TableId → Program → ℕ → List ℕ → RacerState
finished z p k values = record { table = z; made = made_by (length p.threads) k; number = k; arrived = true; passed = thread_length p k; values = values }
