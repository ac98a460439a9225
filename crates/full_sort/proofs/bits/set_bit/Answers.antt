use Rattle.full_sort.proofs.Words.{changes-set}
use Rattle.full_sort.proofs.bits.set_bit.Goals as goal

pub returns : goal.returns
returns c = changes-set c.args.words.now c.args.n c.requires
