use Rattle.std.proofs.Common.{[], ◌∷◌, ◌++◌, subst, sym}
use Rattle.std.specs.Prelude.{IsTrue, slice_index}
use Rattle.test_lang.specs.declared.step.Step.{Step}
use Rattle.sim_core.specs.Setup.{is_enabled_after}
use Rattle.sc_machine.specs.Standing.{Standing, Stands, setup_of, executing_at}
use Rattle.sc_machine.proofs.Executing.{stands_after}
use Rattle.sc_machine.proofs.machine.ScMachineMachine.step.Goals as goal

pub returns-clause-stands : goal.returns-clause-stands
returns-clause-stands c = λ steps h.
    subst (λ (m : Standing). Stands m (steps ++ c.args.step ∷ [])) (sym c.execute.ensures)
    (subst (λ (step : Step). Stands (executing_at c.args.self.now c.in-Execute.thread (slice_index c.args.self.now.positions c.in-Execute.thread)) (steps ++ step ∷ [])) (sym c.in-Execute.is)
    (stands_after c.args.self.now steps h c.in-Execute.thread (subst (λ (step : Step). IsTrue (is_enabled_after (setup_of c.args.self.now) steps step)) c.in-Execute.is (c.requires steps h))))
