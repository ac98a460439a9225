use Rattle.std.proofs.Common.{arith}
use Rattle.test_gen.proofs.SoFar.{all_made, no_thread, op_added, room_left, some_thread, thread_begun, thread_done, threads_made, word_fits}
use Rattle.test_gen.proofs.drawing.generate.Goals as goal

pub loop-thread-init : goal.loop-thread-init
loop-thread-init c = no_thread c.args.settings.now _ _ c.new-test.ensures c.new-draws.ensures

pub add_thread-requires : goal.add_thread-requires
add_thread-requires c =
    let made = threads_made c.args.settings.now _ _ _ c.loop-thread.invariant in
    let before = c.loop-thread-test.true in
    let few = c.requires.threads in
    omega (arith, made, before, few)

pub loop-place-init : goal.loop-place-init
loop-place-init c = thread_begun c.args.settings.now _ _ _ _ c.loop-thread.invariant c.in_ok-add_thread.ensures.ok

pub add_op-requires : goal.add_op-requires
add_op-requires c =
    let settings = c.args.settings.now in
    let so_far = c.loop-place.invariant in
    record {
      thread = some_thread settings _ _ _ _ so_far;
      room = room_left settings _ _ _ _ so_far c.loop-thread-test.true c.loop-place-test.true c.requires.ops;
      word = word_fits settings _ _ _ _ _ so_far c.draw_op.ensures.word;
    }

pub loop-place-preserved : goal.loop-place-preserved
loop-place-preserved c =
    let so_far = c.loop-place.invariant in
    let op = c.draw_op.ensures.op _ so_far.draws_are in
    let behind = c.draw_op.ensures.behind _ so_far.draws_are in
    op_added c.args.settings.now _ _ _ _ _ _ _ so_far op behind c.in_ok-add_op.ensures.ok

pub loop-thread-preserved : goal.loop-thread-preserved
loop-thread-preserved c =
    let past = c.loop-place-test.false in
    let until = c.loop-place.auto._place-end in
    thread_done c.args.settings.now _ _ _ _ c.loop-place.invariant (omega (arith, past, until))

pub returns : goal.returns
returns c =
    let past = c.loop-thread-test.false in
    let until = c.loop-thread.auto._thread-end in
    all_made c.args.settings.now _ _ _ c.loop-thread.invariant (omega (arith, past, until))
