use Rattle.std.proofs.Common.{ap, ◌∙◌}
use Rattle.std.specs.Prelude.{nat_eq}
use Rattle.sc_machine.specs.Standing.{Standing}
use Rattle.sc_machine.proofs.Opening.{done_is}
use Rattle.sc_machine.proofs.machine.ScMachineMachine.done.Goals as goal

pub returns : goal.returns
returns c = λ steps h. ap (λ (m : Standing). nat_eq m.left 0) c.self.view_is ∙ done_is c.args.self.now steps h
