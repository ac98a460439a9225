use Rattle.weak_machine.proofs.Missing.{IsReleased}
use Rattle.weak_machine.proofs.progress.release.Given as goal

abbrev pub invariant-loop-node : goal.invariant-loop-node
invariant-loop-node l = IsReleased l.fn.missing l.fn.ready l.nodes l.node-index l.missing l.ready
