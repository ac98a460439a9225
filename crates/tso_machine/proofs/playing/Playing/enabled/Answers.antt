use Rattle.std.proofs.Common.{◌∙◌, ap, sym, arith}
use Rattle.std.proofs.lemmas.Bool.{le-ltb}
use Rattle.sim_core.specs.Setup.{is_enabled_after, state_after}
use Rattle.tso_machine.proofs.Shown.{drains_nothing, executes_none, performs_nothing}
use Rattle.tso_machine.proofs.playing.Playing.enabled.Goals as goal

pub returns-else-thread-threads : goal.returns-else-thread-threads
returns-else-thread-threads c = λ steps s.
    let m = c.args.self.now in
    let count = c.threads.ensures.count in
    let past = c.if-thread-threads.false in
    le-ltb c.in-Execute.thread c.threads.result past
    ∙ executes_none m.setup.target m.setup.fault m.setup.test (state_after m.setup steps) c.in-Execute.thread (omega (arith, count, past))
    ∙ ap (is_enabled_after m.setup steps) (sym c.in-Execute.is)

pub returns-else-thread-threads-2 : goal.returns-else-thread-threads-2
returns-else-thread-threads-2 c = λ steps s.
    let m = c.args.self.now in
    let count = c.threads-in-Drain.ensures.count in
    let past = c.if-thread-threads-2.false in
    le-ltb c.in-Drain.thread c.threads-in-Drain.result past
    ∙ drains_nothing m.setup.target m.setup.fault m.setup.test (state_after m.setup steps) c.in-Drain.thread c.in-Drain.place (omega (arith, count, past))
    ∙ ap (is_enabled_after m.setup steps) (sym c.in-Drain.is)

pub returns-in-Perform : goal.returns-in-Perform
returns-in-Perform c = λ steps s.
    let m = c.args.self.now in
    performs_nothing m.setup.target m.setup.fault m.setup.test (state_after m.setup steps) c.in-Perform.thread c.in-Perform.index s.has_buffers
    ∙ ap (is_enabled_after m.setup steps) (sym c.in-Perform.is)
