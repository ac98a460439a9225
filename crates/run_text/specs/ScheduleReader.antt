-- A reader of schedule lines, and what a call of it gives.
use Rattle.std.specs.Prelude.{◌≡◌, ℕ, ◌+◌, List, [], ◌++◌, Bool, true, false, Option, Some, None, Result, Ok, Err, if◌then◌else◌}
use Rattle.test_lang.specs.declared.step.Step.{Step}
use Rattle.run_text.specs.declared.fault.RunFault.{RunFault}
use Rattle.run_text.specs.NextLine.{next_line}
use Rattle.run_text.specs.RunLine.{Refuses}
use Rattle.run_text.specs.Steps.{schedule_of}

-- The bytes that are left, the number of the next line, and whether `done` was read.
pub record Schedules : Type 0 where
  pub left : List ℕ
  pub line : ℕ
  pub is_done : Bool

-- Whether a schedule line was read, its steps, and the reader behind it.
pub record ScheduleTurn : Type 0 where
  pub more : Bool
  pub steps : List Step
  pub reader : Schedules

-- the reader behind a line
abbrev pub behind : Schedules → List ℕ → Bool → Schedules
behind r rest is_done = record { left = rest; line = r.line + 1; is_done = is_done }

-- a schedule line was read
abbrev pub schedule_at : Schedules → List ℕ → Result (List Step) RunFault → Result ScheduleTurn RunFault
schedule_at r rest (Ok steps) = Ok (record { more = true; steps = steps; reader = behind r rest false })
schedule_at r rest (Err fault) = Err fault

abbrev pub turn_at : Schedules → Result (Option (List ℕ × List ℕ)) RunFault → Result ScheduleTurn RunFault
turn_at r (Ok None) = Ok (record { more = false; steps = []; reader = behind r [] true })
turn_at r (Ok (Some l)) = schedule_at r l.1 (schedule_of r.line l.0)
turn_at r (Err fault) = Err fault

-- What the next call gives.
abbrev pub schedule_turn : Schedules → Result ScheduleTurn RunFault
schedule_turn r = if r.is_done then Ok (record { more = false; steps = []; reader = r }) else turn_at r (next_line r.line r.left)

-- A call gives a turn: its answer, the steps behind the old ones, and the reader behind it.
pub record TakesSchedule (t : ScheduleTurn) (more : Bool) (old new : List Step) (after : Schedules) : Type 0 where
  pub answer : more ≡ t.more
  pub steps_added : new ≡ old ++ t.steps
  pub reader_moved : after ≡ t.reader

-- A call refuses, and changes nothing.
pub record StaysAtSchedule (fault : RunFault) (read : Result ScheduleTurn RunFault) (old new : List Step) (before after : Schedules) : Type 0 where
  pub refusal : Refuses fault read
  pub steps_kept : new ≡ old
  pub reader_kept : after ≡ before

-- A call gives what the definition gives, unless memory ran out.
abbrev pub GivesSchedule : Result Bool RunFault → List Step → List Step → Schedules → Schedules → Result ScheduleTurn RunFault → Type 0
GivesSchedule (Ok more) old new before after (Ok t) = TakesSchedule t more old new after
GivesSchedule (Ok more) old new before after (Err fault) = ⊥
GivesSchedule (Err fault) old new before after read = StaysAtSchedule fault read old new before after
