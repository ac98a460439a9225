-- The text of all runs, and what reading all of a text gives.
use Rattle.std.specs.Prelude.{◌≡◌, ◌⊎◌, ℕ, zero, suc, ◌<◌, List, [], ◌∷◌, ◌++◌, map, length, Bool, true, false, Result, Ok, Err, if◌then◌else◌, codes}
use Rattle.std.specs.Fmt.{decimal}
use Rattle.std.specs.List.{AllByRecursion, flat_map}
use Rattle.test_lang.specs.Runs.{IsRunOf}
use Rattle.test_lang.specs.Text.Line.{closed}
use Rattle.test_lang.specs.Text.Numeral.{part}
use Rattle.run_text.specs.declared.fault.RunFault.{RunFault}
use Rattle.run_text.specs.declared.fault.RunFault.TheVariants.{Memory}
use Rattle.run_text.specs.Reader.{Reader, Turn, behind, turn}
use Rattle.run_text.specs.Grammar.{CallMeans}
use Rattle.run_text.specs.Items.{IsRefusedText}

abbrev pub AreRunsOf : ℕ → List (List ℕ) → Type 0
AreRunsOf loads runs = AllByRecursion (IsRunOf loads) runs

-- the line of a run
abbrev pub line_of_run : List ℕ → List ℕ
line_of_run run = codes "run" ++ flat_map (λ v. part (decimal v)) run

-- The text of these runs: the line of each, and then `done`.
abbrev pub runs_text : List (List ℕ) → List ℕ
runs_text runs = closed (map line_of_run runs ++ codes "done" ∷ [])

-- Reading, call by call.

abbrev pub with_run : List ℕ → Result (List (List ℕ)) RunFault → Result (List (List ℕ)) RunFault
with_run run (Ok runs) = Ok (run ∷ runs)
with_run run (Err fault) = Err fault

-- these runs, and behind them what is read
abbrev pub with_runs : List (List ℕ) → Result (List (List ℕ)) RunFault → Result (List (List ℕ)) RunFault
with_runs [] read = read
with_runs (run ∷ runs) read = with_run run (with_runs runs read)

-- what is read by a call that gives this, and by reading on behind it
abbrev pub go_on : (Reader → Result (List (List ℕ)) RunFault) → Result Turn RunFault → Result (List (List ℕ)) RunFault
go_on more (Err fault) = Err fault
go_on more (Ok t) = if t.more then with_run t.values (more t.reader) else Ok []

-- what is read by so many calls
abbrev pub reading_by : ℕ → Reader → Result (List (List ℕ)) RunFault
reading_by zero r = Ok []
reading_by (suc calls) r = go_on (reading_by calls) (turn r)

-- What reading all lines gives: the runs up to `done`, or the refusal of the first bad line. Each call but the last reads a byte at least.
abbrev pub reading : Reader → Result (List (List ℕ)) RunFault
reading r = reading_by (suc (length r.left)) r

-- A run line was read: the run stands behind the old values, and what is read in all is this run and then what is read behind it.
pub record IsRunRead (before after : Reader) (old new : List ℕ) : Type 0 where
  pub run : List ℕ
  pub is_run : IsRunOf before.loads run
  pub values : new ≡ old ++ run
  pub reader : after ≡ behind before after.left false
  pub shorter : length after.left < length before.left
  pub in_all : reading before ≡ with_run run (reading after)

-- What a call tells of reading all lines.
abbrev pub ReadsOn : Result Bool RunFault → List ℕ → List ℕ → Reader → Reader → Type 0
ReadsOn (Ok true) old new before after = IsRunRead before after old new
ReadsOn (Ok false) old new before after = reading before ≡ Ok []
ReadsOn (Err fault) old new before after = (fault ≡ Memory) ⊎ (reading before ≡ Err fault)

-- Meaning, in the words of the format: a text of items, of which each is a run.

-- the line is that of the run, which has so many values
pub record IsLineOfRun (loads : ℕ) (run line : List ℕ) : Type 0 where
  pub is_run : IsRunOf loads run
  pub text : line ≡ line_of_run run

-- no good line begins these bytes, and this is why; their first line has this number
abbrev pub IsBadForRuns : ℕ → ℕ → List ℕ → RunFault → Type 0
IsBadForRuns loads number bytes fault = CallMeans (record { left = bytes; line = number; loads = loads; is_done = false }) (Err fault)

-- Good runs, and bytes behind them whose first line is bad.
abbrev pub IsRefused : Reader → RunFault → Type 0
IsRefused r fault = IsRefusedText (IsLineOfRun r.loads) (IsBadForRuns r.loads) r.line r.left fault

-- What a text means: it is the text of these runs, or is refused.
abbrev pub RunsMean : Reader → Result (List (List ℕ)) RunFault → Type 0
RunsMean r (Ok runs) = AreRunsOf r.loads runs × (r.left ≡ runs_text runs)
RunsMean r (Err fault) = IsRefused r fault
