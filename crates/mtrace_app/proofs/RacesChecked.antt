-- What a race writes is what `check` says of the runs that it writes.
use Rattle.std.proofs.Common.{◌≡◌, ◌∙◌, ℕ, List, [], ◌∷◌, ◌++◌, map, Bool, append-nil, refl, sym, ap, subst}
use Rattle.std.specs.Prelude.{codes}
use Rattle.test_lang.specs.declared.op.MemModel.{MemModel}
use Rattle.test_lang.specs.declared.op.MemModel.TheVariants.{Sc}
use Rattle.test_lang.specs.Program.{Program}
use Rattle.test_lang.specs.Runs.{IsRunOf}
use Rattle.test_lang.specs.Values.{load_count}
use Rattle.test_lang.specs.Text.Grammar.{test_text}
use Rattle.test_lang.specs.Text.Line.{closed}
use Rattle.test_lang.proofs.TextLemmas.Lines.{closed-append}
use Rattle.run_text.specs.Items.{AreLinesOf, IsTextOf}
use Rattle.run_text.specs.Runs.{AreRunsOf, IsLineOfRun, line_of_run}
use Rattle.command_line.specs.declared.meaning.Command.{Command}
use Rattle.command_line.specs.declared.meaning.Command.TheVariants.{Check, Race}
use Rattle.command_line.specs.declared.meaning.Settings.{Settings}
use Rattle.mtrace_app.specs.Inputs.{AreRecordedRuns, IsTestAlone, RecordsBy}
use Rattle.mtrace_app.specs.Outputs.{IsOutputOf, OutputsBy}
use Rattle.mtrace_app.specs.Report.{IsReport, run_lines}
use Rattle.mtrace_app.proofs.NoAlarm.{IsAllowed, IsLaw, allowed_races}
use Rattle.mtrace_app.proofs.Races.{all_more}

-- each run has its line
lines_of_runs : (loads : ℕ) (runs : List (List ℕ)) → AreRunsOf loads runs → AreLinesOf (IsLineOfRun loads) runs (map line_of_run runs)
lines_of_runs loads [] each = tt
lines_of_runs loads (run ∷ runs) each = (record { is_run = each.0; text = refl }, lines_of_runs loads runs each.1)

-- the lines of the runs, and behind them the line that ends them
abbrev pub recording : List (List ℕ) → List ℕ
recording runs = run_lines runs ++ codes "done\n"

recording_is_text : (loads : ℕ) (runs : List (List ℕ)) → AreRunsOf loads runs → IsTextOf (IsLineOfRun loads) runs (recording runs) []
recording_is_text loads runs each = record {
  lines = map line_of_run runs;
  each = lines_of_runs loads runs each;
  whole = sym (closed-append (map line_of_run runs) (codes "done" ∷ [])) ∙ sym (append-nil (closed (map line_of_run runs ++ codes "done" ∷ [])));
}

recorded : (bytes : List ℕ) (p : Program) (runs : List (List ℕ)) → IsTestAlone bytes p → AreRunsOf (load_count p) runs → AreRecordedRuns (bytes ++ recording runs) p runs
recorded bytes p runs test each = record {
  rest = recording runs;
  test = record {
    limits = test.limits;
    some_thread = test.some_thread;
    whole = ap (λ (t : List ℕ). t ++ recording runs) (test.whole ∙ append-nil (test_text p));
  };
  text = recording_is_text (load_count p) runs each;
}

pub reported_as_checked : (law : IsLaw) (s t : Settings) (bytes text : List ℕ) (is_clean : Bool) → s.command ≡ Race → t.command ≡ Check → t.model ≡ s.model → t.chunk ≡ s.chunk → IsOutputOf s bytes text is_clean
    → (lines : List ℕ) × (report : List ℕ) × (text ≡ lines ++ report) × IsOutputOf t (bytes ++ (lines ++ codes "done\n")) report is_clean
reported_as_checked law s t bytes text is_clean races checks model chunk h =
    let p = h.test in
    let runs = h.runs in
    let made = subst (λ (c : Command). RecordsBy c s bytes p runs) races h.recorded in
    let written = subst (λ (c : Command). OutputsBy c s p runs text is_clean) races h.output in
    let allowed = allowed_races law Sc p runs made.0.limits made.1.each in
    let each = all_more (IsAllowed Sc p) (IsRunOf (load_count p)) runs (λ run is. is.0.is_run) allowed in
    let reported : IsReport t.model t.chunk p runs written.report is_clean =
    subst (λ (n : ℕ). IsReport t.model n p runs written.report is_clean) (sym chunk) (subst (λ (m : MemModel). IsReport m s.chunk p runs written.report is_clean) (sym model) written.reported) in (
      run_lines runs,
      written.report,
      written.whole,
      record {
        test = p;
        runs = runs;
        recorded = subst (λ (c : Command). RecordsBy c t (bytes ++ recording runs) p runs) (sym checks) (recorded bytes p runs made.0 each);
        limits = h.limits;
        output = subst (λ (c : Command). OutputsBy c t p runs written.report is_clean) (sym checks) reported;
      },
    )
