use Rattle.run_text.proofs.Runs.{reading-turn}
use Rattle.run_text.proofs.laws.lines_are_read_in_turn.Goals as goal

pub returns : goal.returns
returns c = λ reader. reading-turn reader
