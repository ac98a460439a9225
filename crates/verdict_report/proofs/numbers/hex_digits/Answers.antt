use Rattle.std.proofs.Common.{rules, ◌≤◌, ℕ, length, arith, length-set}
use Rattle.verdict_report.specs.Numbers.{hex_word}
use Rattle.verdict_report.proofs.Digits.{one_more_digit}
use Rattle.verdict_report.proofs.numbers.hex_digits.Goals as goal

pub loop-place-init : goal.loop-place-init
unfolding hex_word
loop-place-init c = search rules

pub loop-place-preserved : goal.loop-place-preserved
loop-place-preserved c =
    let h = c.loop-place.invariant in
    let long : c.loop-place.place ≤ length c.loop-place.digits = omega (arith, h.long, h.within) in
    record {
      within = omega (arith, h.within);
      long = omega (arith, length-set {A = ℕ}, h.long);
      digits = one_more_digit c.loop-place.place c.loop-place.rest c.hex_digit.result c.loop-place.digits (hex_word c.args.word) c.loop-place-test.true long c.hex_digit.ensures h.digits;
    }
