use Rattle.mtrace_app.proofs.OtherCrews.{output_of_crew}
use Rattle.mtrace_app.proofs.laws.crews_change_nothing.Goals as goal

pub returns : goal.returns
returns c = output_of_crew
