use Rattle.run_text.proofs.PiecesRead.{piece-then}
use Rattle.run_text.proofs.laws.a_piece_is_read_first.Goals as goal

pub returns : goal.returns
returns c = λ reader piece behind not_done ends whole. piece-then piece behind reader ends not_done whole
