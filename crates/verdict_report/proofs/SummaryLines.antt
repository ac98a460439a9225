-- The lines of a report that tell no outcome.
use Rattle.std.proofs.Common.{◌≡◌, ◌∙◌, ℕ, List, [], ◌∷◌, ◌++◌, map, refl, ap, append_assoc}
use Rattle.std.specs.Prelude.{not, filter}
use Rattle.std.specs.List.{zip}
use Rattle.tally.specs.declared.outcome.Outcome.{Outcome}
use Rattle.test_lang.specs.declared.op.MemModel.{MemModel}
use Rattle.verdict_report.specs.declared.report.Judged.{Judged}
use Rattle.verdict_report.specs.declared.report.Work.{Work}
use Rattle.verdict_report.specs.Lines.{head_lines, outside_line, outsides, report_lines_of, signature_line, signatures, sum_line_of, tells_outcome, work_line}

-- those that tell no outcome
abbrev pub of_summary : List (List ℕ) → List (List ℕ)
of_summary lines = filter (λ line. not (tells_outcome line)) lines

behind_outsides : (outside : List (ℕ × ℕ × ℕ)) (more : List (List ℕ)) → of_summary (map outside_line outside ++ more) ≡ of_summary more
behind_outsides [] more = refl
behind_outsides (first ∷ outside) more = behind_outsides outside more

behind_signatures : (judged : List ((List ℕ × ℕ) × Judged)) (more : List (List ℕ)) → of_summary (map signature_line judged ++ more) ≡ of_summary more
behind_signatures [] more = refl
behind_signatures (first ∷ judged) more = behind_signatures judged more

pub summary_lines : (model : MemModel) (runs : ℕ) (tally : List (Outcome × ℕ)) (found : List Judged) (work : Work)
    → of_summary (report_lines_of model runs tally found work) ≡ head_lines model runs ++ sum_line_of tally found ∷ work_line work ∷ []
summary_lines model runs tally found work =
    let judged = zip (signatures tally) found in
    let outside = outsides tally in
    let ends = sum_line_of tally found ∷ work_line work ∷ [] in
    ap (λ (ls : List (List ℕ)). head_lines model runs ++ of_summary ls) (append_assoc (map signature_line judged) (map outside_line outside) ends)
    ∙ ap (λ (ls : List (List ℕ)). head_lines model runs ++ ls) (behind_signatures judged (map outside_line outside ++ ends) ∙ behind_outsides outside ends)
