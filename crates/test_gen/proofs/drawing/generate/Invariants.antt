use Rattle.test_gen.proofs.SoFar.{HasOps, HasThreads}
use Rattle.test_gen.proofs.drawing.generate.Given as goal

abbrev pub invariant-loop-thread : goal.invariant-loop-thread
invariant-loop-thread l = HasThreads l.settings l._thread l.test l.draws

abbrev pub invariant-loop-place : goal.invariant-loop-place
invariant-loop-place l = HasOps l.settings l._thread l._place l.test l.draws
