use Rattle.std.proofs.Common.{length, arith}
use Rattle.sim_core.proofs.BelowLists.{is-map_below}
use Rattle.sc_machine.specs.Threads.{opening_thread}
use Rattle.sc_machine.proofs.threads.rewind.Goals as goal

pub returns : goal.returns
returns c =
    let ended = c.loop-thread-test.false in
    let count = c.threads-thread-end.ensures.count in
    let long = c.loop-thread.auto.threads in
    let room = c.requires in
    is-map_below (opening_thread c.args.test.now) (length c.args.test.now.threads) c.loop-thread.threads (omega (arith, long, room))
    (λ k d lt. c.loop-thread.invariant k d (omega (arith, lt, ended, count)))
