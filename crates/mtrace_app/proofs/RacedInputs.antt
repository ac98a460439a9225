-- What a race answers for an input, by what was read and raced of it.
use Rattle.std.proofs.Common.{◌≡◌, ℕ, List, ◌++◌, Bool, sym, subst}
use Rattle.test_lang.specs.Program.{Program}
use Rattle.test_lang.specs.Values.{load_count}
use Rattle.command_line.specs.declared.meaning.Command.{Command}
use Rattle.command_line.specs.declared.meaning.Command.TheVariants.{Race}
use Rattle.command_line.specs.declared.meaning.Settings.{Settings}
use Rattle.mtrace_app.specs.declared.failure.Failure.{Failure}
use Rattle.mtrace_app.specs.declared.failure.Failure.TheVariants.{Refused, Memory}
use Rattle.mtrace_app.specs.declared.refusal.InputFault.{InputFault}
use Rattle.mtrace_app.specs.declared.refusal.Refusal.TheVariants.{Input}
use Rattle.mtrace_app.specs.declared.refusal.Size.{Size}
use Rattle.mtrace_app.specs.Answers.{IsTooLarge, RefusesInput}
use Rattle.mtrace_app.specs.Failures.{IfRefused}
use Rattle.mtrace_app.specs.Inputs.{AreRaces, IsRecorded, IsRefusedTestAlone, IsTestAlone, RecordsBy, RefusesBy}
use Rattle.mtrace_app.specs.Limits.{FitLimits, PassLimit}
use Rattle.mtrace_app.specs.Outputs.{IsOutputOf, OutputsBy}
use Rattle.mtrace_app.specs.Report.{IsReport, run_lines}
use Rattle.mtrace_app.proofs.Races.{some_races}

module _ (s : Settings) (bytes : List ℕ) (races : s.command ≡ Race) where
  pub refuses_race : (failure : Failure) → IfRefused (λ refusal. (fault : InputFault) × (refusal ≡ Input fault) × IsRefusedTestAlone bytes fault) failure → IfRefused (RefusesInput s bytes) failure
  refuses_race (Refused refusal) h = subst (RefusesInput s bytes) (sym h.1) (subst (λ (c : Command). RefusesBy c s bytes h.0) (sym races) h.2)
  refuses_race Memory h = tt

  module _ (p : Program) (alone : IsTestAlone bytes p) where
    recorded_race : (runs : List (List ℕ)) → AreRaces p s.runs runs → IsRecorded s bytes p runs
    recorded_race runs raced = subst (λ (c : Command). RecordsBy c s bytes p runs) (sym races) (alone, raced)

    -- so many races pass a limit, and needn't be made
    pub too_large_race : (count loads : ℕ) (size : Size) → count ≡ s.runs → loads ≡ load_count p → PassLimit count loads size → IsTooLarge s bytes size
    too_large_race count loads size number same pass =
        let some = some_races p s.runs in
        let at = subst (λ (n : ℕ). PassLimit s.runs n size) same (subst (λ (n : ℕ). PassLimit n loads size) number pass) in
        (p, s.runs, (some.0, recorded_race some.0 some.1, sym some.1.number), at)

    pub output_race : (runs : List (List ℕ)) (report text : List ℕ) (is_clean : Bool) → AreRaces p s.runs runs → FitLimits s.runs (load_count p) → IsReport s.model s.chunk p runs report is_clean → text ≡ run_lines runs ++ report → IsOutputOf s bytes text is_clean
    output_race runs report text is_clean raced fit reported whole = record {
      test = p;
      runs = runs;
      recorded = recorded_race runs raced;
      limits = subst (λ (n : ℕ). FitLimits n (load_count p)) (sym raced.number) fit;
      output = subst (λ (c : Command). OutputsBy c s p runs text is_clean) (sym races) (record { report = report; reported = reported; whole = whole });
    }
