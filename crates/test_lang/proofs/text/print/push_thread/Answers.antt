use Rattle.test_lang.proofs.TextLemmas.Printing.{thread_action, printed-action}
use Rattle.test_lang.proofs.text.print.push_thread.Goals as goal

pub loop-place-preserved : goal.loop-place-preserved
loop-place-preserved c =
    let within = rw c.len_of-place-end.ensures.count at c.loop-place-test.true in
    let found = rw c.first_of-first.ensures.first at c.action.ensures.found in
    printed-action c.args.out.now.items _ _ _ c.loop-place.place c.action.result c.loop-place.invariant (thread_action c.args.test.now c.args.thread c.loop-place.place c.action.result c.requires.thread within found) c.in_ok-push_action.ensures
