use Rattle.std.proofs.Common.{◌∙◌, ℕ, ◌+◌, ap}
use Rattle.tso_machine.proofs.Bytes.{byte_is}
use Rattle.tso_machine.proofs.Shown.{count_shown, order_of}
use Rattle.tso_machine.proofs.playing.Playing.count_choices.Goals as goal

pub returns-clause-count : goal.returns-clause-count
returns-clause-count c = λ steps s.
    let m = c.args.self.now in
    let o = order_of m.setup.target s.has_buffers in
    ap (λ (n : ℕ). n + c.count_drains.result) (c.from.ensures ∙ byte_is c.may_execute.result)
    ∙ count_shown m o.0 o.1 steps s c.args.thread c.may_execute.result c.count_drains.result (c.may_execute.ensures steps s) (c.count_drains.ensures.count steps s)
