use Rattle.std.proofs.Common.{arith, sym, ◌∙◌}
use Rattle.test_lang.proofs.TextLemmas.Digits.{digits_at-step}
use Rattle.test_lang.proofs.text.numeral.digits.Goals as goal

pub loop-at-preserved : goal.loop-at-preserved
loop-at-preserved c = record {
  small = omega (arith, c.with_digit-number.ensures);
  so_far = digits_at-step _ _ _ c.loop-at-test.true _ _ c.with_digit-number.ensures (sym c.is_ascii_digit.ensures.value ∙ c.if-not-is_ascii_digit.false) c.loop-at.invariant.so_far;
}
