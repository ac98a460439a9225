use Rattle.weak_machine.proofs.Flags.{ArePassed}
use Rattle.weak_machine.proofs.word_bits.nth_set.Given as goal

abbrev pub invariant-loop-i : goal.invariant-loop-i
invariant-loop-i l = ArePassed l.words l.i l.left l.k
