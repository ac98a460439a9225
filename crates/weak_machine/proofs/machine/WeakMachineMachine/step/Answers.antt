use Rattle.std.proofs.Common.{◌≡◌, ◌∙◌, ◌+◌, ◌++◌, ◌∷◌, [], ℕ, ap, sym, subst, arith}
use Rattle.test_lang.specs.declared.step.Step.{Step}
use Rattle.test_lang.specs.declared.step.Step.TheVariants.{Perform}
use Rattle.test_lang.specs.Program.{first_node, op_count}
use Rattle.test_lang.proofs.Threads.{thread_end-le}
use Rattle.sim_core.specs.Setup.{is_enabled_after}
use Rattle.weak_machine.specs.Machine.{setup_of}
use Rattle.weak_machine.specs.Standing.{Standing, Stands, state_of, performing}
use Rattle.weak_machine.specs.contracts.machine.WeakMachine.{the_view}
use Rattle.weak_machine.proofs.Performing.{stands-performed}
use Rattle.weak_machine.proofs.Telling.{index-within, perform-within, thread-within}
use Rattle.weak_machine.proofs.WeakPlays.{perform-enabled}
use Rattle.weak_machine.proofs.machine.WeakMachineMachine.step.Goals as goal

pub first_of-requires : goal.first_of-requires
first_of-requires c =
    let s = c.self.inside in
    thread-within s.test c.in-Perform.thread c.in-Perform.index
    (perform-within (the_view s) c.args.self.now s.waiting s.bases.items _ _ c.self.invariant c.self.view_is c.args.step c.in-Perform.thread c.in-Perform.index c.in-Perform.is c.requires)

pub overflow_add-node : goal.overflow_add-node
overflow_add-node c =
    let s = c.self.inside in
    let lt = perform-within (the_view s) c.args.self.now s.waiting s.bases.items _ _ c.self.invariant c.self.view_is c.args.step c.in-Perform.thread c.in-Perform.index c.in-Perform.is c.requires in
    let end = thread_end-le s.test c.in-Perform.thread in
    let first = c.first_of.ensures.first in
    let few = c.self.invariant.stands_for.1.limits.operations in
    omega (arith, lt, end, first, few)

pub perform-requires-clause-node : goal.perform-requires-clause-node
perform-requires-clause-node c =
    let s = c.self.inside in
    let lt = perform-within (the_view s) c.args.self.now s.waiting s.bases.items _ _ c.self.invariant c.self.view_is c.args.step c.in-Perform.thread c.in-Perform.index c.in-Perform.is c.requires in
    let end = thread_end-le s.test c.in-Perform.thread in
    let first = c.first_of.ensures.first in
    let same = ap (λ (m : Standing). op_count m.test) c.self.view_is in
    omega (arith, lt, end, first, same)

pub returns-in-Perform-clause-stands : goal.returns-in-Perform-clause-stands
returns-in-Perform-clause-stands c = λ steps stands.
    let now = c.args.self.now in
    let thread = c.in-Perform.thread in
    let index = c.in-Perform.index in
    let enabled = ap (is_enabled_after (setup_of now) steps) (sym c.in-Perform.is) ∙ c.requires steps stands in
    let within = index-within now steps thread index enabled in
    let node : c.first_of.result + index ≡ first_node now.test thread + index =
    ap (λ (first : ℕ). first + index) (c.first_of.ensures.first ∙ ap (λ (m : Standing). first_node m.test thread) c.self.view_is) in
    let after = stands-performed now steps stands thread index within (sym (perform-enabled now.fault now.test (state_of now steps) thread index within) ∙ enabled) in
    subst (λ (step : Step). Stands c.perform.new.self (steps ++ step ∷ [])) (sym c.in-Perform.is)
    (subst (λ (m : Standing). Stands m (steps ++ Perform thread index ∷ [])) (sym (c.perform.ensures ∙ ap (performing now) node)) after)
