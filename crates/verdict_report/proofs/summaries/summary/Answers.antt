use Rattle.std.proofs.Common.{◌≡◌, ◌∙◌, ◌++◌, ℕ, List, [], ◌∷◌, length, ap, sym, append-nil}
use Rattle.std.specs.Prelude.{count_by}
use Rattle.test_lang.specs.Text.Line.{closed}
use Rattle.test_lang.proofs.TextLemmas.Lines.{closed-append}
use Rattle.verdict_report.specs.Lines.{format_line, head_lines, model_line, runs_line, sum_line, work_line, signatures, outsides, is_ok, is_cycle}
use Rattle.verdict_report.proofs.SummaryLines.{summary_lines}
use Rattle.verdict_report.proofs.Whole.{whole_report}
use Rattle.verdict_report.proofs.summaries.summary.Goals as goal

pub returns : goal.returns
returns c =
    let tally = c.args.report.now.tally.now in
    let found = c.args.report.now.found.now in
    let ok = count_by is_ok found in
    let cycle = count_by is_cycle found in
    let model = c.args.report.now.model in
    let runs = c.args.report.now.runs in
    let work = c.args.report.now.work in
    let first : c.push_head.new.out.items ≡ closed (format_line ∷ model_line model ∷ []) = c.in_ok-push_head.ensures ∙ ap (λ (ys : List ℕ). ys ++ closed (format_line ∷ model_line model ∷ [])) c.new-out.ensures.items in
    let head : c.push_runs.new.out.items ≡ closed (head_lines model runs) = c.in_ok-push_runs.ensures ∙ ap (λ (ys : List ℕ). ys ++ closed (runs_line runs ∷ [])) first ∙ sym (closed-append (format_line ∷ model_line model ∷ []) (runs_line runs ∷ [])) in
    let sum : c.push_sum.new.out.items ≡ c.push_runs.new.out.items ++ closed (sum_line (length (signatures tally)) ok cycle (length (outsides tally)) ∷ []) =
    c.in_ok-push_sum.ensures
    ∙ ap (λ (n : ℕ). c.push_runs.new.out.items ++ closed (sum_line n ok cycle c.count_outside.result ∷ [])) c.requires
    ∙ ap (λ (n : ℕ). c.push_runs.new.out.items ++ closed (sum_line (length (signatures tally)) ok cycle n ∷ [])) c.count_outside.ensures in
    whole_report c.push_runs.new.out.items c.push_runs.new.out.items c.push_sum.new.out.items c.push_work.new.out.items
    (head_lines model runs) [] (sum_line (length (signatures tally)) ok cycle (length (outsides tally))) (work_line work)
    head (sym (append-nil c.push_runs.new.out.items)) sum c.in_ok-push_work.ensures
    ∙ ap closed (sym (summary_lines model runs tally found work))
