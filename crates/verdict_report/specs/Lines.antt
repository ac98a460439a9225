-- The report, line by line.
use Rattle.std.specs.Prelude.{ℕ, List, [], ◌∷◌, ◌++◌, Bool, true, false, not, ◌||◌, map, filter, length, count_by, codes, Option, Some, None, nat_eq}
use Rattle.std.specs.Fmt.{decimal}
use Rattle.std.specs.List.{flat_map, list_any, starts_with, zip}
use Rattle.tally.specs.declared.outcome.Outcome.{Outcome}
use Rattle.tally.specs.declared.outcome.Outcome.TheVariants.{Inside, Outside}
use Rattle.test_lang.specs.Text.Line.{closed}
use Rattle.test_lang.specs.declared.op.MemModel.{MemModel}
use Rattle.test_lang.specs.Models.{model_name}
use Rattle.test_lang.specs.Text.Numeral.{part}
use Rattle.verdict_report.specs.declared.report.Judged.{Judged}
use Rattle.verdict_report.specs.declared.report.Judged.TheVariants.{Ok, Cycle}
use Rattle.verdict_report.specs.declared.report.Work.{Work}
use Rattle.verdict_report.specs.declared.report.Report.{Report}
use Rattle.verdict_report.specs.Numbers.{signature_text}

-- a word and a number, each behind a space
abbrev pub named : List ℕ → ℕ → List ℕ
named name number = part name ++ part (decimal number)

-- The lines of which a report is made. A summary of the same findings is made of the same lines.

abbrev pub format_line : List ℕ
format_line = codes "mtrace 1"

abbrev pub model_line : MemModel → List ℕ
model_line model = codes "model" ++ part (model_name model)

abbrev pub runs_line : ℕ → List ℕ
runs_line runs = codes "runs" ++ part (decimal runs)

-- the first three lines
abbrev pub head_lines : MemModel → ℕ → List (List ℕ)
head_lines model runs = format_line ∷ model_line model ∷ runs_line runs ∷ []

-- the signatures of a tally, rising, with their counts
abbrev pub signatures : List (Outcome × ℕ) → List (List ℕ × ℕ)
signatures [] = []
signatures ((Inside words, count) ∷ more) = (words, count) ∷ signatures more
signatures ((Outside node value, count) ∷ more) = signatures more

-- the outcomes outside, by node and then by value, each the node, the value and the count
abbrev pub outsides : List (Outcome × ℕ) → List (ℕ × ℕ × ℕ)
outsides [] = []
outsides ((Inside words, count) ∷ more) = outsides more
outsides ((Outside node value, count) ∷ more) = (node, value, count) ∷ outsides more

-- the nodes of a verdict's cycle, if it has one
abbrev pub cycle_of : Judged → Option (List ℕ)
cycle_of Ok = None
cycle_of (Cycle nodes) = Some nodes.list

-- what stands of a verdict behind the count: its cycle, or that there is none
abbrev pub verdict_text : Option (List ℕ) → List ℕ
verdict_text None = codes " ok"
verdict_text (Some nodes) = codes " cycle" ++ flat_map (λ node. part (decimal node)) nodes

-- the line of a signature with its count, and of its verdict
abbrev pub signature_line : (List ℕ × ℕ) × Judged → List ℕ
signature_line (signature, judged) = codes "sig " ++ signature_text signature.0 ++ named (codes "count") signature.1 ++ verdict_text (cycle_of judged)

-- the line of an outcome outside
abbrev pub outside_line : ℕ × ℕ × ℕ → List ℕ
outside_line outside = codes "outside" ++ part (decimal outside.0) ++ named (codes "value") outside.1 ++ named (codes "count") outside.2

-- A line for each distinct signature, then one for each distinct outcome outside.
abbrev pub outcome_lines : List (Outcome × ℕ) → List Judged → List (List ℕ)
outcome_lines tally found = map signature_line (zip (signatures tally) found) ++ map outside_line (outsides tally)

abbrev pub is_ok : Judged → Bool
is_ok Ok = true
is_ok (Cycle nodes) = false

abbrev pub is_cycle : Judged → Bool
is_cycle judged = not (is_ok judged)

-- how many lines there are of signatures, of those with each verdict, and of outcomes outside
abbrev pub sum_line : ℕ → ℕ → ℕ → ℕ → List ℕ
sum_line signatures ok cycle outside =
    codes "sum" ++ named (codes "signatures") signatures ++ named (codes "ok") ok ++ named (codes "cycle") cycle ++ named (codes "outside") outside

abbrev pub work_line : Work → List ℕ
work_line work =
    codes "work" ++ named (codes "chunks") work.chunks ++ named (codes "full") work.full ++ named (codes "kept") work.kept
    ++ named (codes "resorted") work.resorted ++ named (codes "nodes") work.nodes

-- the line that counts the lines of a tally, and of the verdicts on its signatures
abbrev pub sum_line_of : List (Outcome × ℕ) → List Judged → List ℕ
sum_line_of tally found = sum_line (length (signatures tally)) (count_by is_ok found) (count_by is_cycle found) (length (outsides tally))

-- The lines of a report on so many runs, with their tally, the verdicts on its signatures, and the numbers of work.
abbrev pub report_lines_of : MemModel → ℕ → List (Outcome × ℕ) → List Judged → Work → List (List ℕ)
report_lines_of model runs tally found work =
    head_lines model runs ++ outcome_lines tally found ++ sum_line_of tally found ∷ work_line work ∷ []

-- the lines, each closed by a line feed
abbrev pub report_text_of : MemModel → ℕ → List (Outcome × ℕ) → List Judged → Work → List ℕ
report_text_of model runs tally found work = closed (report_lines_of model runs tally found work)

-- The text of a report.
abbrev pub report_text : Report → List ℕ
report_text report = report_text_of report.model report.runs report.tally.now report.found.now report.work

-- whether a line tells an outcome: it begins with `sig` or with `outside`
abbrev pub tells_outcome : List ℕ → Bool
tells_outcome line = starts_with nat_eq line (codes "sig") || starts_with nat_eq line (codes "outside")

-- The summary of the same findings: the lines of the report, without those that tell outcomes.
abbrev pub summary_text_of : MemModel → ℕ → List (Outcome × ℕ) → List Judged → Work → List ℕ
summary_text_of model runs tally found work = closed (filter (λ line. not (tells_outcome line)) (report_lines_of model runs tally found work))

-- The text of a report's summary.
abbrev pub summary_text : Report → List ℕ
summary_text report = summary_text_of report.model report.runs report.tally.now report.found.now report.work

abbrev pub is_outside : Outcome → Bool
is_outside (Inside words) = false
is_outside (Outside node value) = true

-- some verdict is a cycle
abbrev pub has_cycle : List Judged → Bool
has_cycle found = list_any is_cycle found

-- some outcome is outside
abbrev pub has_outside : List (Outcome × ℕ) → Bool
has_outside tally = list_any (λ pair. is_outside pair.0) tally
