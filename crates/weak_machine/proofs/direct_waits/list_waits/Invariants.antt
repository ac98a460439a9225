use Rattle.weak_machine.proofs.Waits.{AreListed}
use Rattle.weak_machine.proofs.direct_waits.list_waits.Given as goal

abbrev pub invariant-loop-b : goal.invariant-loop-b
invariant-loop-b l = AreListed l.fault l.test l.a l.b l.all.items l.direct.items
