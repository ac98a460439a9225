-- What a call of a reader of schedule lines gives, by the forms of lines.
use Rattle.std.specs.Prelude.{◌≡◌, ◌≢◌, ℕ, ◌+◌, ◌^◌, ◌<◌, ◌≤◌, ◌⊎◌, List, [], ◌∷◌, ◌++◌, true, false, Result, Ok, Err, codes}
use Rattle.std.specs.List.{AllByRecursion, flat_map}
use Rattle.test_lang.specs.declared.step.Step.{Step}
use Rattle.test_lang.specs.declared.step.Step.TheVariants.{Execute, Drain, Perform}
use Rattle.test_lang.specs.Text.Line.{IsLine, StartsWithLine}
use Rattle.test_lang.specs.Text.Numeral.{IsNumeralOf, part}
use Rattle.run_text.specs.declared.fault.RunFault.{RunFault}
use Rattle.run_text.specs.declared.fault.RunFault.TheVariants.{BadRunLine, WrongCount, ValueRange, NoDone, AfterDone, Memory}
use Rattle.run_text.specs.Items.{AreLinesOf}
use Rattle.run_text.specs.ScheduleReader.{Schedules, ScheduleTurn, behind}

-- The numeral of n, and then these bytes.
pub record IsBehindNumeral (n : ℕ) (rest text : List ℕ) : Type 0 where
  pub numeral : List ℕ
  pub is_numeral : IsNumeralOf n numeral
  pub whole : text ≡ numeral ++ rest

-- Numerals of two numbers, with a mark between them.
pub record AreMarkedNumerals (first : ℕ) (mark : List ℕ) (second : ℕ) (text : List ℕ) : Type 0 where
  pub numeral : List ℕ
  pub is_numeral : IsNumeralOf second numeral
  pub front : IsBehindNumeral first (mark ++ numeral) text

-- The text is one of the step. The place 0 may be left out, so that `1!` and `1!0` are one step.
abbrev pub IsTextOfStep : Step → List ℕ → Type 0
IsTextOfStep (Execute thread) text = IsNumeralOf thread text
IsTextOfStep (Drain thread place) text = ((place ≡ 0) × IsBehindNumeral thread (codes "!") text) ⊎ AreMarkedNumerals thread (codes "!") place text
IsTextOfStep (Perform thread index) text = AreMarkedNumerals thread (codes ":") index text

-- the schedule line with these texts of steps
abbrev pub schedule_line : List (List ℕ) → List ℕ
schedule_line texts = codes "schedule" ++ flat_map part texts

-- The line is a schedule line with these steps.
pub record SpellsSteps (steps : List Step) (line : List ℕ) : Type 0 where
  pub texts : List (List ℕ)
  pub each : AreLinesOf IsTextOfStep steps texts
  pub whole : line ≡ schedule_line texts

-- each number of the step is below 2^32
abbrev pub StepFits : Step → Type 0
StepFits (Execute thread) = thread < 2 ^ 32
StepFits (Drain thread place) = (thread < 2 ^ 32) × (place < 2 ^ 32)
StepFits (Perform thread index) = (thread < 2 ^ 32) × (index < 2 ^ 32)

-- some number of it isn't
abbrev pub StepIsLarge : Step → Type 0
StepIsLarge (Execute thread) = 2 ^ 32 ≤ thread
StepIsLarge (Drain thread place) = (2 ^ 32 ≤ thread) ⊎ (2 ^ 32 ≤ place)
StepIsLarge (Perform thread index) = (2 ^ 32 ≤ thread) ⊎ (2 ^ 32 ≤ index)

abbrev pub AllStepsFit : List Step → Type 0
AllStepsFit steps = AllByRecursion StepFits steps

abbrev pub HasLargeStep : List Step → Type 0
HasLargeStep [] = ⊥
HasLargeStep (step ∷ steps) = StepIsLarge step ⊎ HasLargeStep steps

-- The text begins with a schedule line of these steps.
pub record StartsWithSchedule (text : List ℕ) (steps : List Step) (rest : List ℕ) : Type 0 where
  pub line : List ℕ
  pub spells : SpellsSteps steps line
  pub whole : text ≡ line ++ 10 ∷ rest

abbrev pub IsNoScheduleLine : List ℕ → Type 0
IsNoScheduleLine line = (steps : List Step) → ¬ SpellsSteps steps line

-- a schedule line whose numbers are small
pub record ReadsSchedule (r : Schedules) (t : ScheduleTurn) (steps : List Step) (rest : List ℕ) : Type 0 where
  pub line : StartsWithSchedule r.left steps rest
  pub fit : AllStepsFit steps
  pub turn : t ≡ record { more = true; steps = steps; reader = behind r rest false }

-- `done`, and nothing behind it
pub record EndsSchedules (r : Schedules) (t : ScheduleTurn) : Type 0 where
  pub line : r.left ≡ codes "done" ++ 10 ∷ []
  pub turn : t ≡ record { more = false; steps = []; reader = behind r [] true }

-- neither `done` nor a schedule line
pub record IsBadScheduleLine (text line rest : List ℕ) : Type 0 where
  pub starts : StartsWithLine text line rest
  pub not_done : line ≢ codes "done"
  pub not_schedule : IsNoScheduleLine line

-- What a call gives, where `done` was not read before. A schedule line may have any number of steps.
abbrev pub ScheduleMeans : Schedules → Result ScheduleTurn RunFault → Type 0
ScheduleMeans r (Ok t) = EndsSchedules r t ⊎ ((steps : List Step) × (rest : List ℕ) × ReadsSchedule r t steps rest)
ScheduleMeans r (Err (NoDone line)) = (line ≡ r.line) × IsLine r.left
ScheduleMeans r (Err (BadRunLine line)) = (line ≡ r.line) × (form : List ℕ) × (rest : List ℕ) × IsBadScheduleLine r.left form rest
ScheduleMeans r (Err (WrongCount line want got)) = ⊥
ScheduleMeans r (Err (ValueRange line)) = (line ≡ r.line) × (steps : List Step) × (rest : List ℕ) × StartsWithSchedule r.left steps rest × HasLargeStep steps
ScheduleMeans r (Err (AfterDone line)) = (line ≡ r.line + 1) × (c : ℕ) × (rest : List ℕ) × (r.left ≡ codes "done" ++ 10 ∷ c ∷ rest)
ScheduleMeans r (Err Memory) = ⊥
