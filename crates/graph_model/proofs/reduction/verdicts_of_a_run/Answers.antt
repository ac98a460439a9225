use Rattle.graph_model.proofs.RunVerdicts.{stands_for_run}
use Rattle.graph_model.proofs.reduction.verdicts_of_a_run.Goals as goal

pub returns : goal.returns
returns c = stands_for_run
