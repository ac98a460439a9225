use Rattle.std.proofs.Common.{◌∙◌, sym}
use Rattle.weak_machine.proofs.Waits.{waits-not_before, waits-apart, waits-same}
use Rattle.weak_machine.proofs.waiting.waits_for.Goals as goal

pub returns-then-b-a : goal.returns-then-b-a
returns-then-b-a c = sym (waits-not_before c.args.fault c.args.test.now c.args.a c.args.b c.if-b-a.true)

pub returns-then-thread_of : goal.returns-then-thread_of
returns-then-thread_of c = sym (waits-apart c.args.fault c.args.test.now c.args.a c.args.b c.thread_of.result c.thread_of-2.result c.thread_of.ensures.found c.thread_of-2.ensures.found c.if-thread_of.true)

pub returns : goal.returns
returns c =
    c.waits.ensures
    ∙ sym (waits-same c.args.test.now c.args.a c.args.b c.thread_of.result c.thread_of-2.result c.action.result c.action-2.result c.thread_of.ensures.found c.thread_of-2.ensures.found c.action.ensures.found c.action-2.ensures.found
    c.args.fault c.if-b-a.false c.if-thread_of.false)
