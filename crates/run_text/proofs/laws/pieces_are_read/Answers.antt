use Rattle.run_text.proofs.PiecesRead.{pieces-read}
use Rattle.run_text.proofs.laws.pieces_are_read.Goals as goal

pub returns : goal.returns
returns c = λ reader pieces not_done cut whole. pieces-read pieces reader cut not_done whole
