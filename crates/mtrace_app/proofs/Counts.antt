-- What a command writes for an input, by what was read and counted of it.
use Rattle.std.proofs.Common.{◌≡◌, ◌∙◌, ℕ, ◌≤◌, List, length, Bool, true, false, Result, Ok, Err, not, ◌&&◌, ap, sym, subst, arith}
use Rattle.std.specs.Prelude.{IfErr, IfOk, IsTrue}
use Rattle.std.specs.Bool.{OnFalse}
use Rattle.tally.specs.declared.outcome.Outcome.{Outcome}
use Rattle.test_lang.specs.declared.op.MemModel.{MemModel}
use Rattle.test_lang.specs.Program.{Program}
use Rattle.test_lang.specs.Values.{load_count}
use Rattle.verdict_report.specs.declared.report.Judged.{Judged}
use Rattle.verdict_report.specs.declared.report.Work.{Work}
use Rattle.verdict_report.specs.Lines.{signatures, has_cycle, has_outside}
use Rattle.command_line.specs.declared.meaning.Settings.{Settings}
use Rattle.mtrace_app.specs.declared.failure.Failure.{Failure}
use Rattle.mtrace_app.specs.declared.failure.Failure.TheVariants.{Refused, Memory}
use Rattle.mtrace_app.specs.declared.form.Form.{Form}
use Rattle.mtrace_app.specs.declared.refusal.InputFault.{InputFault}
use Rattle.mtrace_app.specs.declared.refusal.Refusal.{Refusal}
use Rattle.mtrace_app.specs.declared.refusal.Refusal.TheVariants.{Input}
use Rattle.mtrace_app.specs.declared.refusal.Size.{Size}
use Rattle.mtrace_app.specs.Answers.{IsTooLarge, RefusesInput}
use Rattle.mtrace_app.specs.Counted.{AreCounted, AreCountedWithin}
use Rattle.mtrace_app.specs.Failures.{IfRefused}
use Rattle.mtrace_app.specs.Inputs.{IsRecorded, IsRefusedInput}
use Rattle.mtrace_app.specs.Limits.{FitLimits, PassLimit}
use Rattle.mtrace_app.specs.Outputs.{IsOutputOf, form_of, reports}
use Rattle.mtrace_app.specs.Report.{AreJudged, IsReportIn, IsWork, text_in}
use Rattle.mtrace_app.proofs.ByCommand.{output_by_report}
use Rattle.mtrace_app.proofs.ReportedSignatures.{signatures_in_all}

-- what holds where a test says no
pub no_of : (b : Bool) (P : Type 0) → b ≡ false → OnFalse b P → P
no_of true P e h = absurd cc
no_of false P e h = h

-- what holds of a result holds of it in a weaker form
pub if_ok_more : {X E : Type 0} (r : Result X E) (P Q : X → Type 0) → ((x : X) → P x → Q x) → IfOk r P → IfOk r Q
if_ok_more (Ok x) P Q more h = more x h
if_ok_more (Err e) P Q more h = h

pub if_ok_both : {X E : Type 0} (r : Result X E) (P Q R : X → Type 0) → ((x : X) → P x → Q x → R x) → IfOk r P → IfOk r Q → IfOk r R
if_ok_both (Ok x) P Q R both h k = both x h k
if_ok_both (Err e) P Q R both h k = h

pub if_err_more : {X E : Type 0} (r : Result X E) (P Q : E → Type 0) → ((e : E) → P e → Q e) → IfErr r P → IfErr r Q
if_err_more (Ok x) P Q more h = h
if_err_more (Err e) P Q more h = more e h

pub refused_more : (failure : Failure) (P Q : Refusal → Type 0) → ((refusal : Refusal) → P refusal → Q refusal) → IfRefused P failure → IfRefused Q failure
refused_more (Refused refusal) P Q more h = more refusal h
refused_more Memory P Q more h = tt

-- ---- the report of counted runs

-- the report that is made of verdicts and work
pub report_by : (form : Form) (model : MemModel) (chunk : ℕ) (p : Program) (runs : List (List ℕ)) (count : ℕ) (tally : List (Outcome × ℕ)) (found : List Judged) (work : Work) (text : List ℕ) (is_clean : Bool)
    → AreJudged model p (signatures tally) found → IsWork model p chunk (signatures tally) work → text ≡ text_in form model count (record { tally = tally; verdicts = found; work = work })
    → is_clean ≡ (not (has_cycle found) && not (has_outside tally)) → AreCounted p runs count tally → IsReportIn form model chunk p runs text is_clean
report_by form model chunk p runs count tally found work text is_clean judged worked whole clean counted = record {
  findings = record { tally = tally; verdicts = found; work = work };
  found = record { counts = counted.counts; sum = counted.sum; judged = judged; works = worked };
  whole = whole ∙ ap (λ (n : ℕ). text_in form model n (record { tally = tally; verdicts = found; work = work })) counted.number;
  clean = clean;
}

-- within the limits there are no more signatures than runs may be
pub few_signatures : (p : Program) (runs : List (List ℕ)) (count : ℕ) (tally : List (Outcome × ℕ)) → AreCounted p runs count tally → count ≤ 1000000 → length (signatures tally) ≤ 1000000
few_signatures p runs count tally counted few =
    let most = signatures_in_all tally counted.counts.counts.positive in
    let sum = counted.sum in
    let number = counted.number in
    omega (arith, most, sum, number, few)

-- ---- what a command answers recorded runs

module _ (s : Settings) (bytes : List ℕ) where
  -- an input that wasn't read
  pub refuses_input : (failure : Failure) → IfRefused (λ refusal. (fault : InputFault) × (refusal ≡ Input fault) × IsRefusedInput s bytes fault) failure → IfRefused (RefusesInput s bytes) failure
  refuses_input (Refused refusal) h = subst (RefusesInput s bytes) (sym h.1) h.2
  refuses_input Memory h = tt

  module _ (p : Program) (runs : List (List ℕ)) (count : ℕ) (tally : List (Outcome × ℕ)) (read : IsRecorded s bytes p runs) (counted : AreCountedWithin p runs count tally) where
    -- recorded runs that pass a limit
    pub too_large : (loads : ℕ) (size : Size) → loads ≡ load_count p → PassLimit count loads size → IsTooLarge s bytes size
    too_large loads size same pass = (p, count, (runs, read, counted.number), subst (λ (n : ℕ). PassLimit count n size) same pass)

    module _ (loads : ℕ) (same : loads ≡ load_count p) (fit : FitLimits count loads) where
      fit_here : FitLimits count (load_count p)
      fit_here = subst (λ (n : ℕ). FitLimits count n) same fit

      fit_runs : FitLimits (length runs) (load_count p)
      fit_runs = subst (λ (n : ℕ). FitLimits n (load_count p)) counted.number fit_here

      pub counted_here : AreCounted p runs count tally
      counted_here = counted.counted fit_here

      -- all other recorded runs
      pub output_here : (text : List ℕ) (is_clean : Bool) → IsTrue (reports s.command) → IsReportIn (form_of s.command) s.model s.chunk p runs text is_clean → IsOutputOf s bytes text is_clean
      output_here text is_clean reported report = record {
        test = p;
        runs = runs;
        recorded = read;
        limits = fit_runs;
        output = output_by_report s.command s p runs text is_clean reported report;
      }
