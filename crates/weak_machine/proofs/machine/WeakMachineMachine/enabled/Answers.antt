use Rattle.std.proofs.Common.{◌∙◌, ◌+◌, ℕ, ap, sym, subst, arith}
use Rattle.test_lang.specs.declared.step.Step.{Step}
use Rattle.test_lang.specs.declared.step.Step.TheVariants.{Perform}
use Rattle.sim_core.specs.Setup.{is_enabled_after}
use Rattle.weak_machine.specs.NodeSets.{has_flag}
use Rattle.weak_machine.specs.Standing.{Standing, Stands}
use Rattle.weak_machine.specs.Machine.{setup_of}
use Rattle.weak_machine.specs.contracts.machine.WeakMachine.{the_view}
use Rattle.weak_machine.proofs.Telling.{enabled-is, ready-long}
use Rattle.weak_machine.proofs.machine.WeakMachineMachine.enabled.Goals as goal

pub has-requires : goal.has-requires
has-requires c =
    let s = c.self.inside in
    let long = ready-long (the_view s) s.waiting s.bases.items _ _ c.self.invariant in
    let first = c.first_of.ensures.first in
    let within = c.len_of.ensures.within in
    let lt = c.if-index-len_of.false in
    omega (arith, long, first, within, lt)

pub returns : goal.returns
returns c = λ steps stands.
    let s = c.self.inside in
    let there = subst (λ (m : Standing). Stands m steps) (sym c.self.view_is) stands in
    let lt = c.if-index-len_of.false in
    let count = c.len_of.ensures.count in
    c.has.ensures
    ∙ ap (λ (first : ℕ). has_flag s.progress.ready (first + c.in-Perform.index)) c.first_of.ensures.first
    ∙ enabled-is (the_view s) s.waiting s.bases.items _ _ c.self.invariant steps there c.in-Perform.thread c.in-Perform.index (omega (arith, lt, count))
    ∙ ap (λ (m : Standing). is_enabled_after (setup_of m) steps (Perform c.in-Perform.thread c.in-Perform.index)) c.self.view_is
    ∙ ap (λ (step : Step). is_enabled_after (setup_of c.args.self.now) steps step) (sym c.in-Perform.is)
