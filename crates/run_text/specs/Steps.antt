-- The steps of a schedule line: its first part is the word, and each other part is a step.
use Rattle.std.specs.Prelude.{ℕ, List, [], ◌∷◌, filter, Bool, ◌&&◌, ◌==◌, Option, Some, None, Result, Ok, Err, if◌then◌else◌, codes}
use Rattle.std.specs.List.{list_all, slice_split}
use Rattle.std.specs.Option.{option_map}
use Rattle.std.specs.Str.{bytes_eq}
use Rattle.test_lang.specs.declared.step.Step.{Step}
use Rattle.test_lang.specs.declared.step.Step.TheVariants.{Execute, Drain, Perform}
use Rattle.test_lang.specs.Text.Numeral.{numeral_at, whole_numeral}
use Rattle.run_text.specs.declared.fault.RunFault.{RunFault}
use Rattle.run_text.specs.declared.fault.RunFault.TheVariants.{BadRunLine, ValueRange}
use Rattle.run_text.specs.Parts.{fits}

-- A step by its text. The numbers may be any, also those that are too large for a step of a machine.

-- what stands behind `!`
abbrev pub drain_of : ℕ → List ℕ → Option Step
drain_of thread [] = Some (Drain thread 0)
drain_of thread (c ∷ cs) = option_map (Drain thread) (whole_numeral (c ∷ cs))

-- what stands behind the numeral of the thread: nothing, or `!`, or `:`
abbrev pub step_behind : ℕ → List ℕ → Option Step
step_behind thread [] = Some (Execute thread)
step_behind thread (c ∷ cs) = if c == 33 then drain_of thread cs else if c == 58 then option_map (Perform thread) (whole_numeral cs) else None

abbrev pub step_from : Option (ℕ × List ℕ) → Option Step
step_from None = None
step_from (Some read) = step_behind read.0 read.1

-- The step of a text, if it has the form of one.
abbrev pub step_of : List ℕ → Option Step
step_of text = step_from (numeral_at text)

-- each of its numbers is below 2^32
abbrev pub fits_step : Step → Bool
fits_step (Execute thread) = fits thread
fits_step (Drain thread place) = fits thread && fits place
fits_step (Perform thread index) = fits thread && fits index

abbrev pub all_steps_fit : List Step → Bool
all_steps_fit steps = list_all fits_step steps

abbrev pub fitting : List Step → List Step
fitting steps = filter fits_step steps

-- The parts of a line.

abbrev pub is_space : ℕ → Bool
is_space c = c == 32

-- what stands before the first space, between two, and behind the last
abbrev pub parts_of : List ℕ → List (List ℕ)
parts_of line = slice_split is_space line

-- the parts behind a space that stands in front
abbrev pub parts_behind : List ℕ → List (List ℕ)
parts_behind [] = []
parts_behind (c ∷ cs) = parts_of cs

abbrev pub with_step : Option Step → Option (List Step) → Option (List Step)
with_step None steps = None
with_step (Some step) None = None
with_step (Some step) (Some steps) = Some (step ∷ steps)

-- the steps of some parts, if each is one
abbrev pub all_steps : List (List ℕ) → Option (List Step)
all_steps [] = Some []
all_steps (text ∷ texts) = with_step (step_of text) (all_steps texts)

abbrev pub steps_of_parts : List (List ℕ) → Option (List Step)
steps_of_parts [] = None
steps_of_parts (word ∷ texts) = if bytes_eq word (codes "schedule") then all_steps texts else None

-- The steps of a schedule line, if the line has its form.
abbrev pub schedule_steps : List ℕ → Option (List Step)
schedule_steps line = steps_of_parts (parts_of line)

-- the steps, if each fits
abbrev pub judged_steps : ℕ → Option (List Step) → Result (List Step) RunFault
judged_steps number None = Err (BadRunLine number)
judged_steps number (Some steps) = if all_steps_fit steps then Ok steps else Err (ValueRange number)

-- What reading a line as a schedule line gives.
abbrev pub schedule_of : ℕ → List ℕ → Result (List Step) RunFault
schedule_of number line = judged_steps number (schedule_steps line)
