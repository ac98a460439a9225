use Rattle.std.proofs.Common.{◌∙◌, ap, sym, subst, length}
use Rattle.sim_core.specs.Setup.{choices_after}
use Rattle.weak_machine.specs.Standing.{Standing, Stands}
use Rattle.weak_machine.specs.Machine.{setup_of}
use Rattle.weak_machine.specs.contracts.machine.WeakMachine.{the_view}
use Rattle.weak_machine.proofs.Telling.{count-is}
use Rattle.weak_machine.proofs.machine.WeakMachineMachine.count.Goals as goal

pub returns : goal.returns
returns c = λ steps stands.
    let s = c.self.inside in
    c.count.ensures
    ∙ count-is (the_view s) s.waiting s.bases.items _ _ c.self.invariant steps (subst (λ (m : Standing). Stands m steps) (sym c.self.view_is) stands)
    ∙ ap (λ (m : Standing). length (choices_after (setup_of m) steps)) c.self.view_is
