-- What a command writes, by its settings and the bytes that it takes.
use Rattle.std.specs.Prelude.{◌≡◌, ℕ, ◌^◌, ◌≤◌, List, [], length, Bool, true, false, Option, Some, IfSome, if◌then◌else◌}
use Rattle.std.specs.Io.KnownBytes.{IsAtEnd}
use Rattle.test_lang.specs.Program.{Program}
use Rattle.test_lang.specs.Values.{load_count}
use Rattle.test_lang.specs.Text.Grammar.{test_text}
use Rattle.command_line.specs.declared.meaning.Command.{Command}
use Rattle.command_line.specs.declared.meaning.Command.TheVariants.{Check, Replay, Run, Race, Generate, Demo}
use Rattle.command_line.specs.declared.meaning.Settings.{Settings}
use Rattle.mtrace_app.specs.declared.form.Form.{Form}
use Rattle.mtrace_app.specs.declared.form.Form.TheVariants.{Whole, Summary}
use Rattle.mtrace_app.specs.Inputs.{IsRecorded, reads}
use Rattle.mtrace_app.specs.Limits.{FitLimits}
use Rattle.mtrace_app.specs.Outside.{Change, IsWithinLimit, WhereTold}
use Rattle.mtrace_app.specs.Report.{IsReport, IsRunsAndReport, IsSummary}

-- ---- by command

abbrev pub OutputsBy : Command → Settings → Program → List (List ℕ) → List ℕ → Bool → Type 0
OutputsBy Check s p runs text is_clean = IsReport s.model s.chunk p runs text is_clean
OutputsBy Replay s p runs text is_clean = IsReport s.model s.chunk p runs text is_clean
OutputsBy Run s p runs text is_clean = IsReport s.model s.chunk p runs text is_clean
OutputsBy Race s p runs text is_clean = IsRunsAndReport s.model s.chunk p runs text is_clean
OutputsBy Generate s p runs text is_clean = (text ≡ test_text p) × (is_clean ≡ true)
OutputsBy Demo s p runs text is_clean = IsSummary s.model s.chunk p runs text is_clean

-- By these settings this text is the output for these recorded runs, and it is clean or isn't.
abbrev pub IsOutput : Settings → Program → List (List ℕ) → List ℕ → Bool → Type 0
IsOutput s p runs text is_clean = OutputsBy s.command s p runs text is_clean

-- By these settings the bytes mean recorded runs within the limits, and this is the output for them.
pub record IsOutputOf (s : Settings) (bytes text : List ℕ) (is_clean : Bool) : Type 0 where
  pub test : Program
  pub runs : List (List ℕ)
  pub recorded : IsRecorded s bytes test runs
  pub limits : FitLimits (length runs) (load_count test)
  pub output : IsOutput s test runs text is_clean

-- ---- reports

-- whether all that a command writes is what is found of runs: a race writes the runs first
abbrev pub reports : Command → Bool
reports Check = true
reports Replay = true
reports Run = true
reports Race = false
reports Generate = false
reports Demo = true

-- in which form a command tells what is found (`generate` finds nothing and reports nothing: no clause asks for its form)
abbrev pub form_of : Command → Form
form_of Check = Whole
form_of Replay = Whole
form_of Run = Whole
form_of Race = Whole
form_of Generate = Whole
form_of Demo = Summary

-- ---- the bytes that a command takes

-- The command reads the source to its end, or takes nothing of it.
abbrev pub TakesBy : Bool → Change → Type 0
TakesBy true source = IsAtEnd source.now × WhereTold source.before source.now IsWithinLimit
TakesBy false source = source.now ≡ source.before

-- the bytes that a command takes of what a source has left: there are none for one that takes nothing
abbrev pub input_of : Settings → Option (List ℕ) → Option (List ℕ)
input_of s left = if reads s.command then left else Some []

-- The command took its bytes, no more than an input may have, and this holds of them. Where the source tells what it had left, they are that.
pub record IsOfInput (s : Settings) (source : Change) (P : List ℕ → Type 0) : Type 0 where
  pub taken : TakesBy (reads s.command) source
  pub bytes : List ℕ
  pub whole : IfSome (input_of s source.before) (λ left. bytes ≡ left)
  pub few : length bytes ≤ 2 ^ 30
  pub holds : P bytes
