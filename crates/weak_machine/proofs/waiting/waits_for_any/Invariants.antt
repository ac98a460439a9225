use Rattle.std.proofs.Common.{◌≡◌, false, take}
use Rattle.weak_machine.specs.Waiting.{waits_for_any}
use Rattle.weak_machine.proofs.waiting.waits_for_any.Given as goal

abbrev pub invariant-loop-a : goal.invariant-loop-a
invariant-loop-a l = waits_for_any l.fault l.test (take l.a-index l.nodes) l.b ≡ false
