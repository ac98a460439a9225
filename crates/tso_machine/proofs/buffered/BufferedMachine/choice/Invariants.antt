use Rattle.std.proofs.Common.{◌≡◌, ◌+◌, sum, take}
use Rattle.tso_machine.proofs.buffered.BufferedMachine.choice.Given as goal

abbrev pub invariant-loop-thread : goal.invariant-loop-thread
invariant-loop-thread l = l.left + sum (take l.thread l.self-inside.counts.items) ≡ l.k
