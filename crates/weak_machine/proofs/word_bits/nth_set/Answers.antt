use Rattle.std.proofs.Common.{◌*◌, ◌+◌, arith, length}
use Rattle.weak_machine.proofs.Flags.{nth-found, nth-within, passed-more}
use Rattle.weak_machine.proofs.word_bits.nth_set.Goals as goal

pub overflow_add-result : goal.overflow_add-result
overflow_add-result c =
    let turn = c.loop-i-test.true in
    let words = c.args.words.now in
    let found = nth-found words c.loop-i.i c.loop-i.left c.args.k c.nth_bit.result (omega (arith, turn)) c.loop-i.invariant c.nth_bit.ensures in
    let below = nth-within words (64 * length words) c.args.k (64 * c.loop-i.i + c.nth_bit.result) found in
    let few = c.requires.few in
    omega (arith, below, few)

pub returns-then-left-ones : goal.returns-then-left-ones
returns-then-left-ones c =
    let turn = c.loop-i-test.true in
    nth-found c.args.words.now c.loop-i.i c.loop-i.left c.args.k c.nth_bit.result (omega (arith, turn)) c.loop-i.invariant c.nth_bit.ensures

pub loop-i-preserved : goal.loop-i-preserved
loop-i-preserved c =
    let fits = c.type_inv.words c.loop-i.i in
    passed-more c.args.words.now c.loop-i.i c.loop-i.left c.args.k (omega (arith, fits)) c.loop-i.invariant c.if-left-ones.false
