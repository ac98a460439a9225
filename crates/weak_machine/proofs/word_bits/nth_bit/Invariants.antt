use Rattle.std.proofs.Common.{◌≡◌, drop}
use Rattle.weak_machine.specs.NodeSets.{bits_of}
use Rattle.weak_machine.proofs.word_bits.nth_bit.Given as goal

abbrev pub invariant-loop-cleared : goal.invariant-loop-cleared
invariant-loop-cleared l = bits_of l.rest ≡ drop l.cleared (bits_of l.word)
