use Rattle.std.proofs.Common.{◌∙◌, ◌-◌, ℕ, Some, ap, sym, subst, arith, length}
use Rattle.std.specs.Prelude.{slice_get}
use Rattle.test_lang.specs.declared.step.Step.TheVariants.{Perform}
use Rattle.test_lang.proofs.Threads.{thread_at-stands}
use Rattle.sim_core.specs.Setup.{choices_after}
use Rattle.weak_machine.specs.Standing.{Standing, Stands}
use Rattle.weak_machine.specs.Machine.{setup_of}
use Rattle.weak_machine.specs.contracts.machine.WeakMachine.{the_view}
use Rattle.weak_machine.proofs.Telling.{count-is, choice-is, ready-long}
use Rattle.weak_machine.proofs.machine.WeakMachineMachine.choice.Goals as goal

pub nth-node-requires : goal.nth-node-requires
nth-node-requires c =
    let s = c.self.inside in
    let steps = c.self.invariant.stands_for.0 in
    let stands = c.self.invariant.stands_for.1 in
    let count = count-is (the_view s) s.waiting s.bases.items _ _ c.self.invariant steps stands in
    let asked = c.requires steps (subst (λ (m : Standing). Stands m steps) c.self.view_is stands) in
    let same = ap (λ (m : Standing). length (choices_after (setup_of m) steps)) c.self.view_is in
    omega (arith, count, asked, same)

pub thread_of-thread-requires : goal.thread_of-thread-requires
thread_of-thread-requires c =
    let s = c.self.inside in
    let long = ready-long (the_view s) s.waiting s.bases.items _ _ c.self.invariant in
    let lt = c.nth-node.ensures.within in
    omega (arith, long, lt)

pub overflow_sub-result : goal.overflow_sub-result
overflow_sub-result c =
    let from = (thread_at-stands c.self.inside.test c.nth-node.result c.thread_of-thread.result c.thread_of-thread.ensures.found).from in
    let first = c.first_of.ensures.first in
    omega (arith, from, first)

pub returns : goal.returns
returns c = λ steps stands.
    let s = c.self.inside in
    let n = c.nth-node.result in
    let thread = c.thread_of-thread.result in
    let there = subst (λ (m : Standing). Stands m steps) (sym c.self.view_is) stands in
    ap (λ (m : Standing). slice_get (choices_after (setup_of m) steps) c.args.k) (sym c.self.view_is)
    ∙ choice-is (the_view s) s.waiting s.bases.items _ _ c.self.invariant steps there c.args.k n thread c.nth-node.ensures.found c.thread_of-thread.ensures.found
    ∙ ap (λ (first : ℕ). Some (Perform thread (n - first))) (sym c.first_of.ensures.first)
