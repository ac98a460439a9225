use Rattle.std.proofs.lemmas.Result.{err_from_is_err_and}
use Rattle.std.proofs.Common.{◌∙◌}
use Rattle.mtrace_app.proofs.Counts.{few_signatures}
use Rattle.mtrace_app.proofs.RacedInputs.{refuses_race, too_large_race}
use Rattle.mtrace_app.proofs.raced.race_input.Goals as goal

pub returns-in_err-test-clause-refused : goal.returns-in_err-test-clause-refused
returns-in_err-test-clause-refused g c =
    let p = err_from_is_err_and c.from_residual.result c.from_residual.ensures.1 in
    rw (p.1, p.2) (refuses_race c.args.settings.now c.args.input.now c.requires.race c.in_err-test.field-0.0 c.in_err-test.ensures.err)

pub returns-in-Err-clause-refused : goal.returns-in-Err-clause-refused
returns-in-Err-clause-refused g c =
    too_large_race c.args.settings.now c.args.input.now c.requires.race c.in_ok-test.test c.in_ok-test.ensures.ok c.from-runs.result c.from.result c.in-Err.size c.from-runs.ensures (c.from.ensures ∙ c.loads.ensures.count) c.in-Err.ensures.pass

pub report_of-requires-clause-few : goal.report_of-requires-clause-few
report_of-requires-clause-few g c κs within =
    let raced = c.in_ok-lines.ensures in
    few_signatures c.in_ok-test.test raced.0 c.args.settings.now.runs c.in_ok-lines.field-0.tally raced.2 c.requires.ranges.runs
