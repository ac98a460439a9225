use Rattle.mtrace_app.proofs.ByCommand.{one_refusal_by}
use Rattle.mtrace_app.proofs.laws.inputs_have_one_refusal.Goals as goal

pub returns : goal.returns
returns c = λ s bytes fault other h k. one_refusal_by s.command s bytes fault other h k
