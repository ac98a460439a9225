use Rattle.std.proofs.Common.{◌≡◌, ℕ, Some, subst, arith, w64}
use Rattle.std.specs.Prelude.{slice_get}
use Rattle.std.specs.Int.{trailing_zeros}
use Rattle.weak_machine.specs.NodeSets.{bits_of}
use Rattle.weak_machine.proofs.WordBits.{count_ones-bits, next-cleared, next-lowest, next-short}
use Rattle.weak_machine.proofs.word_bits.nth_bit.Goals as goal

pub overflow_shl-rest : goal.overflow_shl-rest
overflow_shl-rest c =
    let ranges = c.ranges.word in
    let rest_fits = c.loop-cleared.auto.rest-fits in
    let turn = c.loop-cleared-test.true in
    let asked = c.requires in
    let counted = count_ones-bits c.args.word (omega (arith, ranges)) in
    next-short c.args.word c.loop-cleared.rest c.loop-cleared.cleared c.loop-cleared.invariant (omega (arith, turn, asked, counted)) (omega (arith, rest_fits))

pub loop-cleared-preserved : goal.loop-cleared-preserved
loop-cleared-preserved c =
    let ranges = c.ranges.word in
    let rest_fits = c.loop-cleared.auto.rest-fits in
    let turn = c.loop-cleared-test.true in
    let asked = c.requires in
    let counted = count_ones-bits c.args.word (omega (arith, ranges)) in
    next-cleared c.args.word c.loop-cleared.rest c.loop-cleared.cleared c.loop-cleared.invariant (omega (arith, turn, asked, counted)) (omega (arith, rest_fits))

pub returns : goal.returns
returns c =
    let ranges = c.ranges.word in
    let rest_fits = c.loop-cleared.auto.rest-fits in
    let past = c.loop-cleared-test.false in
    let most = c.loop-cleared.auto.cleared-end in
    let asked = c.requires in
    let counted = count_ones-bits c.args.word (omega (arith, ranges)) in
    let all : c.loop-cleared.cleared ≡ c.args.k = omega (arith, past, most) in
    subst (λ (k : ℕ). slice_get (bits_of c.args.word) k ≡ Some (trailing_zeros w64 c.loop-cleared.rest)) all
    (next-lowest c.args.word c.loop-cleared.rest c.loop-cleared.cleared c.loop-cleared.invariant (omega (arith, most, asked, counted, all)) (omega (arith, rest_fits)))
