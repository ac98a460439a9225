use Rattle.std.proofs.Common.{◌∙◌}
use Rattle.std.proofs.lemmas.Result.{err_from_is_err_and}
use Rattle.mtrace_app.proofs.Counts.{counted_here, few_signatures, output_here, refuses_input, too_large}
use Rattle.mtrace_app.proofs.input.report_for_input.Goals as goal

pub returns-in_err-read-clause-refused : goal.returns-in_err-read-clause-refused
returns-in_err-read-clause-refused g c =
    let p = err_from_is_err_and c.from_residual.result c.from_residual.ensures.1 in
    rw (p.1, p.2) (refuses_input c.args.settings.now c.args.input.now c.in_err-read.field-0.0 c.in_err-read.ensures.err)

pub returns-in-Err-clause-refused : goal.returns-in-Err-clause-refused
returns-in-Err-clause-refused g c =
    let read = c.in_ok-read.read in
    let ok = c.in_ok-read.ensures.ok in
    too_large c.args.settings.now c.args.input.now read.test ok.0 read.runs read.tally ok.1 ok.2 c.from.result c.in-Err.size (c.from.ensures ∙ c.loads.ensures.count) c.in-Err.ensures.pass

pub report_of-requires-clause-few : goal.report_of-requires-clause-few
report_of-requires-clause-few g c κs within =
    let read = c.in_ok-read.read in
    let ok = c.in_ok-read.ensures.ok in
    let fit = c.in_default.ensures.fit in
    few_signatures read.test ok.0 read.runs read.tally (counted_here c.args.settings.now c.args.input.now read.test ok.0 read.runs read.tally ok.1 ok.2 c.from.result (c.from.ensures ∙ c.loads.ensures.count) fit) fit.0

pub returns-clause-output : goal.returns-clause-output
returns-clause-output g c =
    let s = c.args.settings.now in
    let read = c.in_ok-read.read in
    let ok = c.in_ok-read.ensures.ok in
    let same = c.from.ensures ∙ c.loads.ensures.count in
    let fit = c.in_default.ensures.fit in
    let output = c.in_ok-report_of.field-0 in
    output_here s c.args.input.now read.test ok.0 read.runs read.tally ok.1 ok.2 c.from.result same fit output.text.items output.is_clean c.requires.reports
    (c.in_ok-report_of.ensures ok.0 (counted_here s c.args.input.now read.test ok.0 read.runs read.tally ok.1 ok.2 c.from.result same fit))
