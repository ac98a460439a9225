use Rattle.std.proofs.Common.{refl}
use Rattle.mtrace_app.specs.Outside.{change}
use Rattle.mtrace_app.proofs.Causes.{generated_output}
use Rattle.mtrace_app.proofs.output.output_of.Goals as goal

pub returns-in_ok-generated_text-in-Generate-clause-output : goal.returns-in_ok-generated_text-in-Generate-clause-output
returns-in_ok-generated_text-in-Generate-clause-output g c =
    let output = c.in_ok-generated_text-in-Generate.field-0 in
    let told = c.in_ok-generated_text-in-Generate.ensures in
    generated_output c.args.settings.now (change (g.S.Source.left c.args.source.now) (g.S.Source.left c.args.source.now) (g.S.Source.faults c.args.source.now) (g.S.Source.faults c.args.source.now)) output.text.items output.is_clean c.in-Generate.is refl
    told.text told.clean
