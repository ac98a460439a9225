use Rattle.weak_machine.proofs.Missing.{raised-room}
use Rattle.std.proofs.Common.{arith}
use Rattle.weak_machine.proofs.progress.raise.Goals as goal

pub overflow_add-missing : goal.overflow_add-missing
overflow_add-missing c =
    let i = c.loop-node.node-index in
    let room = raised-room c.args.missing.now c.args.nodes.now c.loop-node.missing i (omega arith) c.requires.inside c.requires.room c.loop-node.invariant.more in
    omega (arith, room)
