use Rattle.sc_machine.proofs.Listing.{AreListed}
use Rattle.sc_machine.proofs.threads.list_open.Given as goal

abbrev pub invariant-loop-number : goal.invariant-loop-number
invariant-loop-number l = AreListed l.threads l.listed l.count l.number
