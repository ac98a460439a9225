use Rattle.std.proofs.Common.{arith}
use Rattle.full_sort.proofs.Words.{first-found}
use Rattle.full_sort.proofs.bits.first_bit.Goals as goal

pub returns-then-word-ne0 : goal.returns-then-word-ne0
returns-then-word-ne0 c =
    let some = c.if-word-ne0.true in
    first-found c.args.words.now c.loop-i.i (let fits = c.type_inv.words c.loop-i.i in omega (arith, fits)) (omega (arith, some)) c.loop-i.invariant
