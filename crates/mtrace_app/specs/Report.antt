-- The report of runs: what is found of them, and the text that tells it.
use Rattle.std.specs.Prelude.{◌≡◌, ℕ, List, [], ◌∷◌, ◌++◌, map, length, Bool, not, ◌&&◌}
use Rattle.tally.specs.declared.outcome.Outcome.{Outcome}
use Rattle.tally.specs.Tallies.{IsTally, total_of}
use Rattle.test_lang.specs.declared.op.MemModel.{MemModel}
use Rattle.test_lang.specs.Program.{Program}
use Rattle.test_lang.specs.Text.Line.{closed}
use Rattle.run_text.specs.Runs.{line_of_run}
use Rattle.signature_plan.specs.Outcomes.{outcome_of}
use Rattle.verdict_report.specs.declared.report.Judged.{Judged}
use Rattle.verdict_report.specs.declared.report.Work.{Work}
use Rattle.verdict_report.specs.Lines.{signatures, report_text_of, summary_text_of, has_cycle, has_outside}
use Rattle.chunk_pool.specs.Chunks.{IsWorkInChunks}
use Rattle.chunk_pool.specs.Verdicts.{IsJudged}
use Rattle.mtrace_app.specs.declared.form.Form.{Form}
use Rattle.mtrace_app.specs.declared.form.Form.TheVariants.{Whole, Summary}

-- one verdict for each signature of a tally, in their order
abbrev pub AreJudged : MemModel → Program → List (List ℕ × ℕ) → List Judged → Type 0
AreJudged model p [] [] = Unit {0}
AreJudged model p [] (judged ∷ found) = ⊥
AreJudged model p (signature ∷ more) [] = ⊥
AreJudged model p (signature ∷ more) (judged ∷ found) = IsJudged model p signature.0 judged × AreJudged model p more found

-- the words of signatures with counts
abbrev pub words_of : List (List ℕ × ℕ) → List (List ℕ)
words_of signatures = map (λ signature. signature.0) signatures

-- the work on these signatures, in chunks of this size
abbrev pub IsWork : MemModel → Program → ℕ → List (List ℕ × ℕ) → Work → Type 0
IsWork model p chunk signatures work = IsWorkInChunks model p chunk (words_of signatures) work

-- What is found of runs: the counts of their outcomes, the verdicts on the signatures among these, and the work.
pub record Findings : Type 0 where
  pub tally : List (Outcome × ℕ)
  pub verdicts : List Judged
  pub work : Work

pub record AreFindings (model : MemModel) (chunk : ℕ) (p : Program) (runs : List (List ℕ)) (f : Findings) : Type 0 where
  -- each distinct outcome once, rising, with its count, and the counts sum to the runs
  pub counts : IsTally (map (outcome_of p) runs) f.tally
  pub sum : total_of f.tally ≡ length runs
  -- each distinct signature with its verdict
  pub judged : AreJudged model p (signatures f.tally) f.verdicts
  pub works : IsWork model p chunk (signatures f.tally) f.work

-- no verdict is a cycle, and no outcome is outside
abbrev pub are_clean : Findings → Bool
are_clean f = not (has_cycle f.verdicts) && not (has_outside f.tally)

-- the text of findings of so many runs: all lines of their report, or its summary
abbrev pub text_in : Form → MemModel → ℕ → Findings → List ℕ
text_in Whole model runs f = report_text_of model runs f.tally f.verdicts f.work
text_in Summary model runs f = summary_text_of model runs f.tally f.verdicts f.work

-- The text tells in this form what is found of these runs, and whether it is clean.
pub record IsReportIn (form : Form) (model : MemModel) (chunk : ℕ) (p : Program) (runs : List (List ℕ)) (text : List ℕ) (is_clean : Bool) : Type 0 where
  pub findings : Findings
  pub found : AreFindings model chunk p runs findings
  pub whole : text ≡ text_in form model (length runs) findings
  pub clean : is_clean ≡ are_clean findings

-- the report of these runs
abbrev pub IsReport : MemModel → ℕ → Program → List (List ℕ) → List ℕ → Bool → Type 0
IsReport = IsReportIn Whole

-- its summary, which is clean where the report is
abbrev pub IsSummary : MemModel → ℕ → Program → List (List ℕ) → List ℕ → Bool → Type 0
IsSummary = IsReportIn Summary

-- a line of each run
abbrev pub run_lines : List (List ℕ) → List ℕ
run_lines runs = closed (map line_of_run runs)

-- The lines of these runs, and behind them their report.
pub record IsRunsAndReport (model : MemModel) (chunk : ℕ) (p : Program) (runs : List (List ℕ)) (text : List ℕ) (is_clean : Bool) : Type 0 where
  pub report : List ℕ
  pub reported : IsReport model chunk p runs report is_clean
  pub whole : text ≡ run_lines runs ++ report
