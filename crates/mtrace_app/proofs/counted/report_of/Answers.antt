use Rattle.std.proofs.Common.{◌∙◌, ℕ, List, All, ap, subst, sym}
use Rattle.std.specs.List.{AllZip}
use Rattle.test_lang.specs.Signatures.{Means}
use Rattle.verdict_report.specs.Lines.{signatures}
use Rattle.chunk_pool.specs.Chunks.{IsWorkInChunks}
use Rattle.chunk_pool.specs.Verdicts.{IsJudged}
use Rattle.mtrace_app.specs.declared.form.Form.{Form}
use Rattle.mtrace_app.specs.Outputs.{form_of}
use Rattle.mtrace_app.specs.Report.{text_in}
use Rattle.mtrace_app.proofs.Counts.{if_ok_both, report_by}
use Rattle.mtrace_app.proofs.ReportedSignatures.{judged_in_order, length-judged, words_mean}
use Rattle.mtrace_app.proofs.counted.report_of.Goals as goal

pub check_all-requires-clause-meant : goal.check_all-requires-clause-meant
check_all-requires-clause-meant g c κs within =
    let p = c.args.counted.now.test.now in
    let ss = signatures c.args.counted.now.tally.now in
    subst (All (λ words. (run : List ℕ) × Means p words run)) (sym (c.deref.ensures.value ∙ c.in_ok-signatures.ensures)) (words_mean p ss c.requires.meant)

pub write_report-requires : goal.write_report-requires
write_report-requires g c =
    let p = c.args.counted.now.test.now in
    let model = c.args.settings.now.model in
    let ss = signatures c.args.counted.now.tally.now in
    let found = c.in_ok-checked.checked.found.items in
    let zipped = subst (λ (words : List (List ℕ)). AllZip (IsJudged model p) words found) (c.deref.ensures.value ∙ c.in_ok-signatures.ensures) c.in_ok-checked.ensures.found in
    length-judged model p ss found (judged_in_order model p ss found zipped)

pub returns : goal.returns
returns g c =
    let s = c.args.settings.now in
    let p = c.args.counted.now.test.now in
    let tally = c.args.counted.now.tally.now in
    let ss = signatures tally in
    let found = c.in_ok-checked.checked.found.items in
    let work = c.in_ok-checked.checked.work in
    let listed = c.deref.ensures.value ∙ c.in_ok-signatures.ensures in
    let zipped = subst (λ (words : List (List ℕ)). AllZip (IsJudged s.model p) words found) listed c.in_ok-checked.ensures.found in
    let worked = subst (λ (words : List (List ℕ)). IsWorkInChunks s.model p s.chunk words work) listed c.in_ok-checked.ensures.work in
    if_ok_both c.write_report.result _ _ _
    (λ output whole clean. λ runs counted.
    report_by (form_of s.command) s.model s.chunk p runs c.args.counted.now.runs tally found work output.text.items output.is_clean (judged_in_order s.model p ss found zipped) worked
    (whole ∙ ap (λ (form : Form). text_in form s.model c.args.counted.now.runs (record { tally = tally; verdicts = found; work = work })) c.of-form.ensures) clean counted)
    c.write_report.ensures.text c.write_report.ensures.clean
