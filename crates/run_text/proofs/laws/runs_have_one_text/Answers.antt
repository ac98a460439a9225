use Rattle.run_text.proofs.Runs.{text_is_runs}
use Rattle.run_text.proofs.laws.runs_have_one_text.Goals as goal

pub returns : goal.returns
returns c = λ loads runs text rest. text_is_runs loads runs text rest
