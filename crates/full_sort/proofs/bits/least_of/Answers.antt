-- The first word that isn't 0, and the lowest bit there.
use Rattle.std.proofs.Common.{arith}
use Rattle.full_sort.proofs.Summed.{summed-short, summed-some}
use Rattle.full_sort.proofs.bits.least_of.Goals as goal

pub overflow_add-result : goal.overflow_add-result
overflow_add-result c =
    let short = summed-short c.args.low.now c.args.high.now c.requires c.in-Some.word c.in-Some.ensures (let fits = c.type_inv.low c.in-Some.word in omega (arith, fits)) in
    let few = c.requires.few in
    omega (arith, short, few)

pub overflow_cast-result-in-Some : goal.overflow_cast-result-in-Some
overflow_cast-result-in-Some c =
    let short = summed-short c.args.low.now c.args.high.now c.requires c.in-Some.word c.in-Some.ensures (let fits = c.type_inv.low c.in-Some.word in omega (arith, fits)) in
    let few = c.requires.few in
    omega (arith, short, few)

pub returns-in-Some : goal.returns-in-Some
returns-in-Some c = summed-some c.args.low.now c.args.high.now c.requires c.in-Some.word c.in-Some.ensures (let fits = c.type_inv.low c.in-Some.word in omega (arith, fits))
