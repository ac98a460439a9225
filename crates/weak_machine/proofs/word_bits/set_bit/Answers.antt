use Rattle.weak_machine.proofs.WordBits.{changes-set}
use Rattle.weak_machine.proofs.word_bits.set_bit.Goals as goal

pub returns : goal.returns
returns c = changes-set c.args.words.now c.args.n c.requires
