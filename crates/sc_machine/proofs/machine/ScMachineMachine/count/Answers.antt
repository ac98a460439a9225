use Rattle.std.proofs.Common.{refl, ◌∙◌}
use Rattle.sc_machine.proofs.Choosing.{count-is, keeps_threads}
use Rattle.sc_machine.proofs.machine.ScMachineMachine.count.Goals as goal

pub returns : goal.returns
returns c = λ steps h.
    c.self.invariant.counted ∙ count-is c.args.self.now steps h c.self.inside.threads.items (keeps_threads _ _ _ c.self.invariant.machine refl c.self.view_is)
