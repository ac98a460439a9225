use Rattle.std.proofs.Common.{◌∙◌, sym}
use Rattle.tso_machine.proofs.Shown.{executes_by, executes_not, order_of}
use Rattle.tso_machine.proofs.playing.Playing.may_execute.Goals as goal

pub returns-in-Some : goal.returns-in-Some
returns-in-Some c = λ steps s.
    let m = c.args.self.now in
    let o = order_of m.setup.target s.has_buffers in
    c.is_unfenced.ensures steps s ∙ sym (executes_by m o.0 o.1 steps s c.args.thread c.in-Some.node (c.in-Some.ensures.next steps s))

pub returns-in-None : goal.returns-in-None
returns-in-None c = λ steps s.
    let m = c.args.self.now in
    let o = order_of m.setup.target s.has_buffers in
    sym (executes_not m o.0 o.1 steps s c.args.thread (c.in-None.ensures.next steps s))
