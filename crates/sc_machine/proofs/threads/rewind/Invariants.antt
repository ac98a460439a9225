use Rattle.std.proofs.Common.{◌≡◌, ◌<◌, ℕ, get_or}
use Rattle.sc_machine.specs.declared.threads.Thread.{Thread}
use Rattle.sc_machine.specs.Threads.{opening_thread}
use Rattle.sc_machine.proofs.threads.rewind.Given as goal

abbrev pub invariant-loop-thread : goal.invariant-loop-thread
invariant-loop-thread l = (k : ℕ) (other : Thread) → k < l.thread → get_or l.threads k other ≡ opening_thread l.test k
