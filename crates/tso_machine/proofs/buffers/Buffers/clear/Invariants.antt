use Rattle.std.proofs.Common.{◌≡◌, ◌++◌, map, take, drop}
use Rattle.tso_machine.proofs.Ranges.{emptied}
use Rattle.tso_machine.proofs.buffers.Buffers.clear.Given as goal

abbrev pub invariant-loop-range : goal.invariant-loop-range
invariant-loop-range l = l.range-items ≡ map emptied (take l.range-index l.initial.range-items) ++ drop l.range-index l.initial.range-items
