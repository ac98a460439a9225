use Rattle.std.proofs.Common.{◌≡◌, ◌<◌, length, subst}
use Rattle.test_lang.specs.declared.step.Step.{Step}
use Rattle.test_lang.specs.declared.step.Step.TheVariants.{Execute, Drain}
use Rattle.sim_core.specs.Setup.{state_after}
use Rattle.tso_machine.specs.Queues.{Queues}
use Rattle.tso_machine.specs.Moments.{Moment}
use Rattle.tso_machine.specs.Moves.{IsEnabled, IsPlaying, thread_of}
use Rattle.tso_machine.proofs.Bounds.{ordered}
use Rattle.tso_machine.proofs.Shown.{order_of}
use Rattle.tso_machine.proofs.Steps.{enabled_thread}
use Rattle.tso_machine.proofs.Turns.{performs_none}
use Rattle.tso_machine.proofs.playing.Playing.take.Goals as goal

-- the thread of an enabled step
in_range : (m : Moment) (queues : Queues) (step taken : Step) → IsPlaying m queues → IsEnabled m step → step ≡ taken → thread_of taken < length m.setup.test.threads
in_range m queues step taken k enabled is =
    let o = order_of m.setup.target k.stands.has_buffers in
    enabled_thread m.setup.target m.setup.fault m.setup.test (state_after m.setup k.steps) taken (ordered m o.0 o.1) (subst (IsEnabled m) is enabled k.steps k.stands)

pub execute-requires-clause-thread : goal.execute-requires-clause-thread
execute-requires-clause-thread c =
    in_range c.args.self.now c.self.inside.buffers c.args.step (Execute c.in-Execute.thread) (subst (λ (m : Moment). IsPlaying m c.self.inside.buffers) c.self.view_is c.self.invariant) c.requires c.in-Execute.is

pub drain-requires-clause-thread : goal.drain-requires-clause-thread
drain-requires-clause-thread c =
    in_range c.args.self.now c.self.inside.buffers c.args.step (Drain c.in-Drain.thread c.in-Drain.place) (subst (λ (m : Moment). IsPlaying m c.self.inside.buffers) c.self.view_is c.self.invariant) c.requires c.in-Drain.is

pub unreachable-requires : goal.unreachable-requires
unreachable-requires c =
    let m = c.args.self.now in
    let k = subst (λ (m : Moment). IsPlaying m c.self.inside.buffers) c.self.view_is c.self.invariant in
    let o = order_of m.setup.target k.stands.has_buffers in
    let yes = subst (IsEnabled m) c.in-Perform.is c.requires k.steps k.stands in
    let no_step = performs_none m.setup.target m.setup.fault m.setup.test (state_after m.setup k.steps) c.in-Perform.thread c.in-Perform.index (ordered m o.0 o.1) in
    absurd (cc (yes, no_step))

pub returns-in-Execute-clause-in_range : goal.returns-in-Execute-clause-in_range
returns-in-Execute-clause-in_range c =
    in_range c.args.self.now c.self.inside.buffers c.args.step (Execute c.in-Execute.thread) (subst (λ (m : Moment). IsPlaying m c.self.inside.buffers) c.self.view_is c.self.invariant) c.requires c.in-Execute.is

pub returns-in-Drain-clause-in_range : goal.returns-in-Drain-clause-in_range
returns-in-Drain-clause-in_range c =
    in_range c.args.self.now c.self.inside.buffers c.args.step (Drain c.in-Drain.thread c.in-Drain.place) (subst (λ (m : Moment). IsPlaying m c.self.inside.buffers) c.self.view_is c.self.invariant) c.requires c.in-Drain.is
