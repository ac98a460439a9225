use Rattle.weak_machine.proofs.WordBits.{changes-clear}
use Rattle.weak_machine.proofs.word_bits.clear_bit.Goals as goal

pub returns : goal.returns
returns c = changes-clear c.args.words.now c.args.n c.requires
