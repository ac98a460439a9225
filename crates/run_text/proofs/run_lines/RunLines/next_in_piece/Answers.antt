use Rattle.run_text.proofs.PieceCalls.{call-reads_in_piece, gives-line}
use Rattle.run_text.proofs.run_lines.RunLines.next_in_piece.Goals as goal

pub returns-clause-reads_on : goal.returns-clause-reads_on
returns-clause-reads_on c = call-reads_in_piece c.args.self.now c.step_in_piece.new.self c.args.values.now.items c.step_in_piece.new.values.items c.step_in_piece.result c.step_in_piece.ensures

pub returns-clause-line : goal.returns-clause-line
returns-clause-line c = gives-line c.args.self.now c.step_in_piece.new.self c.args.values.now.items c.step_in_piece.new.values.items c.step_in_piece.result c.step_in_piece.ensures
