use Rattle.mtrace_app.proofs.OneReport.{one_output}
use Rattle.mtrace_app.proofs.laws.inputs_have_one_output.Goals as goal

pub returns : goal.returns
returns c = one_output
