use Rattle.std.proofs.Common.{◌∙◌, arith}
use Rattle.sc_machine.proofs.Opening.{end-last}
use Rattle.sc_machine.proofs.threads.thread_end.Goals as goal

pub returns-else-behind-threads : goal.returns-else-behind-threads
returns-else-behind-threads c =
    let past = c.if-behind-threads.false in
    let count = c.threads-threads.ensures.count in
    c.ops.ensures.count ∙ end-last c.args.test.now c.args.thread (omega (arith, past, count))
