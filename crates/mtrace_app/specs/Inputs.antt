-- What the bytes mean that a command takes: a test with recorded runs, or the refusal of their first bad line.
use Rattle.std.specs.Prelude.{◌≡◌, ◌≢◌, ℕ, ◌+◌, List, [], map, length, Bool, true, false, Option, Some, None, Err}
use Rattle.std.specs.List.{AllByRecursion}
use Rattle.test_lang.specs.Program.{Program}
use Rattle.test_lang.specs.Values.{load_count}
use Rattle.test_lang.specs.declared.text.fault.TestFault.{TestFault}
use Rattle.test_lang.specs.declared.text.fault.TestFault.TheVariants.{BadHead as BadHeadLine, BadWords as BadWordsLine, BadLine as BadTestLine, WordRange as WordRangeLine, TooManyThreads as TooManyThreadsLine, TooManyOps as TooManyOpsLine, NoThread as NoThreadLine, NoEnd as NoEndLine, Memory as MemoryOfTest}
use Rattle.test_lang.specs.Text.Grammar.{test_lines, StartsWithTest}
use Rattle.test_lang.specs.Text.Refusal.{IsRefused as IsRefusedTest}
use Rattle.run_text.specs.declared.fault.RunFault.{RunFault}
use Rattle.run_text.specs.declared.fault.RunFault.TheVariants.{BadRunLine as BadLineOfRun, WrongCount as WrongCountLine, ValueRange as ValueRangeLine, NoDone as NoDoneLine, AfterDone as AfterDoneLine, Memory as MemoryOfRuns}
use Rattle.run_text.specs.Reader.{Reader}
use Rattle.run_text.specs.Items.{IsTextOf, IsRefusedText}
use Rattle.run_text.specs.Runs.{IsLineOfRun, IsBadForRuns}
use Rattle.run_text.specs.ScheduleReader.{Schedules}
use Rattle.run_text.specs.ScheduleGrammar.{SpellsSteps, AllStepsFit, StartsWithSchedule, ScheduleMeans}
use Rattle.test_lang.specs.declared.step.Step.{Step}
use Rattle.run_count.specs.Counts.{text_of}
use Rattle.sim_core.specs.Setup.{Setup, IsDonePlayOf, run_after}
use Rattle.sim_core.specs.Drawn.{AreDrawnRuns}
use Rattle.sim_core.specs.declared.schedule.PlayFault.{PlayFault}
use Rattle.sim_core.specs.declared.schedule.PlayFault.TheVariants.{NotEnabled as NotEnabledStep, Unfinished as UnfinishedPlay}
use Rattle.sim_core.specs.Schedules.{ComesOut}
use Rattle.shared_words.specs.Interleavings.{IsInterleaved}
use Rattle.test_gen.specs.Generated.{generated}
use Rattle.command_line.specs.declared.meaning.Command.{Command}
use Rattle.command_line.specs.declared.meaning.Command.TheVariants.{Check, Replay, Run, Race, Generate, Demo}
use Rattle.command_line.specs.declared.meaning.Settings.{Settings}
use Rattle.mtrace_app.specs.declared.refusal.InputFault.{InputFault}
use Rattle.mtrace_app.specs.declared.refusal.Reason.{Reason}
use Rattle.mtrace_app.specs.declared.refusal.Reason.TheVariants.{BadHead, BadWords, BadLine, WordRange, TooManyThreads, TooManyOps, NoThread, NoEnd, BadRunLine, WrongCount, ValueRange, NoDone, AfterDone, NotEnabled, Unfinished}

-- whether a command takes bytes
abbrev pub reads : Command → Bool
reads Check = true
reads Replay = true
reads Run = true
reads Race = true
reads Generate = false
reads Demo = false

-- ---- the refusals of the texts, as those of an input

abbrev pub fault_at : ℕ → Reason → Option InputFault
fault_at line reason = Some (record { line = line; reason = reason })

abbrev pub fault_in_test : TestFault → Option InputFault
fault_in_test (BadHeadLine line) = fault_at line BadHead
fault_in_test (BadWordsLine line) = fault_at line BadWords
fault_in_test (BadTestLine line) = fault_at line BadLine
fault_in_test (WordRangeLine line) = fault_at line WordRange
fault_in_test (TooManyThreadsLine line) = fault_at line TooManyThreads
fault_in_test (TooManyOpsLine line) = fault_at line TooManyOps
fault_in_test (NoThreadLine line) = fault_at line NoThread
fault_in_test (NoEndLine line) = fault_at line NoEnd
fault_in_test MemoryOfTest = None

abbrev pub fault_behind_test : RunFault → Option InputFault
fault_behind_test (BadLineOfRun line) = fault_at line BadRunLine
fault_behind_test (WrongCountLine line want got) = fault_at line (WrongCount want got)
fault_behind_test (ValueRangeLine line) = fault_at line ValueRange
fault_behind_test (NoDoneLine line) = fault_at line NoDone
fault_behind_test (AfterDoneLine line) = fault_at line AfterDone
fault_behind_test MemoryOfRuns = None

-- ---- a test, and behind it a text of items, each with a line of its own, up to the line `done`

-- The bytes are the text of a test, and behind it stands a text of these items. Which lines an item may have is told by a relation.
pub record IsRecordedText {Item : Type 0} (IsLineOf : Program → Item → List ℕ → Type 0) (bytes : List ℕ) (p : Program) (items : List Item) : Type 0 where
  pub rest : List ℕ
  pub test : StartsWithTest bytes p rest
  pub text : IsTextOf (IsLineOf p) items rest []

-- No test stands in front, or the text of items behind it is refused. The refusal is that of the first bad line; lines are numbered through the whole input.
pub data IsRefusedRecordedText {Item Fault : Type 0} (IsLineOf : Program → Item → List ℕ → Type 0) (IsBad : Program → ℕ → List ℕ → Fault → Type 0) (name : Fault → Option InputFault) (bytes : List ℕ) (fault : InputFault) : Type 0 where
  in_test : (refusal : TestFault) → IsRefusedTest bytes refusal → fault_in_test refusal ≡ Some fault → IsRefusedRecordedText IsLineOf IsBad name bytes fault
  behind : (p : Program) (rest : List ℕ) (refusal : Fault) → StartsWithTest bytes p rest → IsRefusedText (IsLineOf p) (IsBad p) (length (test_lines p) + 1) rest refusal → name refusal ≡ Some fault → IsRefusedRecordedText IsLineOf IsBad name bytes fault

-- ---- the items are runs

abbrev pub AreRecordedRuns : List ℕ → Program → List (List ℕ) → Type 0
AreRecordedRuns = IsRecordedText (λ p. IsLineOfRun (load_count p))

abbrev pub AreRefusedRuns : List ℕ → InputFault → Type 0
AreRefusedRuns = IsRefusedRecordedText (λ p. IsLineOfRun (load_count p)) (λ p. IsBadForRuns (load_count p)) fault_behind_test

-- the reader of the text behind a test
abbrev pub behind_test : Program → List ℕ → Reader
behind_test p rest = text_of p (length (test_lines p) + 1) rest

-- ---- the items are schedules, each a play to the end

-- the line is a schedule line with these steps, which the machine plays to the end
pub record IsLineOfPlay (setup : Setup) (steps : List Step) (line : List ℕ) : Type 0 where
  pub spells : SpellsSteps steps line
  pub fit : AllStepsFit steps
  pub is_done_play : IsDonePlayOf setup steps

-- the reader of the schedules behind a test, the first line of which has this number
abbrev pub schedules_behind : ℕ → List ℕ → Schedules
schedules_behind line rest = record { left = rest; line = line; is_done = false }

abbrev pub fault_of_play : ℕ → PlayFault → InputFault
fault_of_play line (NotEnabledStep place) = record { line = line; reason = NotEnabled place }
fault_of_play line UnfinishedPlay = record { line = line; reason = Unfinished }

-- No schedule that is played to the end begins these bytes, and this is why; their first line has this number. The form of a line comes before its play.
pub data IsBadForPlays (setup : Setup) (number : ℕ) (bytes : List ℕ) (fault : InputFault) : Type 0 where
  no_schedule : (refusal : RunFault) → ScheduleMeans (schedules_behind number bytes) (Err refusal) → fault_behind_test refusal ≡ Some fault → IsBadForPlays setup number bytes fault
  not_played : (steps : List Step) (rest : List ℕ) (refusal : PlayFault) → StartsWithSchedule bytes steps rest → AllStepsFit steps → ComesOut setup steps (Err refusal) → fault ≡ fault_of_play number refusal → IsBadForPlays setup number bytes fault

-- what the settings have a test played on
abbrev pub setup_of : Settings → Program → Setup
setup_of s p = record { target = s.target; fault = s.fault; test = p }

-- The recorded runs are those of the schedules.
pub record ArePlayedRuns (s : Settings) (bytes : List ℕ) (p : Program) (runs : List (List ℕ)) : Type 0 where
  pub schedules : List (List Step)
  pub text : IsRecordedText (λ q. IsLineOfPlay (setup_of s q)) bytes p schedules
  pub played : runs ≡ map (run_after (setup_of s p)) schedules

abbrev pub AreRefusedPlays : Settings → List ℕ → InputFault → Type 0
AreRefusedPlays s = IsRefusedRecordedText (λ p. IsLineOfPlay (setup_of s p)) (λ p. IsBadForPlays (setup_of s p)) (λ fault. Some fault)

-- ---- a test alone, whose runs are drawn or raced

-- the bytes are the text of a test, and nothing stands behind it
abbrev pub IsTestAlone : List ℕ → Program → Type 0
IsTestAlone bytes p = StartsWithTest bytes p []

-- No test stands in front, or something stands behind one. Lines are numbered through the whole input.
pub data IsRefusedTestAlone (bytes : List ℕ) (fault : InputFault) : Type 0 where
  no_test : (refusal : TestFault) → IsRefusedTest bytes refusal → fault_in_test refusal ≡ Some fault → IsRefusedTestAlone bytes fault
  not_alone : (p : Program) (rest : List ℕ) → StartsWithTest bytes p rest → rest ≢ [] → fault ≡ record { line = length (test_lines p) + 1; reason = AfterDone } → IsRefusedTestAlone bytes fault

-- these are the runs that the settings draw of a test
abbrev pub AreRunsDrawn : Settings → Program → List (List ℕ) → Type 0
AreRunsDrawn s p = AreDrawnRuns (setup_of s p) s.gen_settings.seed s.runs

-- So many runs of a test, each that of one interleaving of its threads. Which these are, nothing says.
pub record AreRaces (p : Program) (count : ℕ) (runs : List (List ℕ)) : Type 0 where
  pub number : length runs ≡ count
  pub each : AllByRecursion (IsInterleaved p) runs

-- ---- by command
-- `generate` and `demo` take no bytes, and are of the test that their settings draw. Only `demo` has runs of it.

abbrev pub RecordsBy : Command → Settings → List ℕ → Program → List (List ℕ) → Type 0
RecordsBy Check s bytes p runs = AreRecordedRuns bytes p runs
RecordsBy Replay s bytes p runs = ArePlayedRuns s bytes p runs
RecordsBy Run s bytes p runs = IsTestAlone bytes p × AreRunsDrawn s p runs
RecordsBy Generate s bytes p runs = (p ≡ generated s.gen_settings) × (runs ≡ [])
RecordsBy Demo s bytes p runs = (p ≡ generated s.gen_settings) × AreRunsDrawn s p runs
RecordsBy Race s bytes p runs = IsTestAlone bytes p × AreRaces p s.runs runs

abbrev pub RefusesBy : Command → Settings → List ℕ → InputFault → Type 0
RefusesBy Check s bytes fault = AreRefusedRuns bytes fault
RefusesBy Replay s bytes fault = AreRefusedPlays s bytes fault
RefusesBy Run s bytes fault = IsRefusedTestAlone bytes fault
RefusesBy Race s bytes fault = IsRefusedTestAlone bytes fault
RefusesBy command s bytes fault = ⊥

-- whether the bytes and the settings leave one list of recorded runs: a race may make any
abbrev pub fixes_runs : Command → Bool
fixes_runs Check = true
fixes_runs Replay = true
fixes_runs Run = true
fixes_runs Race = false
fixes_runs Generate = true
fixes_runs Demo = true

-- By these settings the bytes mean this test and these recorded runs of it.
abbrev pub IsRecorded : Settings → List ℕ → Program → List (List ℕ) → Type 0
IsRecorded s bytes p runs = RecordsBy s.command s bytes p runs

-- By these settings the bytes mean this test and so many recorded runs of it.
abbrev pub HasRunCount : Settings → List ℕ → Program → ℕ → Type 0
HasRunCount s bytes p count = (runs : List (List ℕ)) × IsRecorded s bytes p runs × (count ≡ length runs)

-- By these settings the bytes are refused.
abbrev pub IsRefusedInput : Settings → List ℕ → InputFault → Type 0
IsRefusedInput s bytes fault = RefusesBy s.command s bytes fault
