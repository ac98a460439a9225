use Rattle.std.proofs.Common.{sym, subst}
use Rattle.test_lang.specs.Text.Numeral.{IsNumeralOf}
use Rattle.test_lang.proofs.TextLemmas.Numerals.{numeral_at-spelled, numeral_at-starts, whole_numeral-spelled, whole_numeral-of, numeral-is_decimal, decimal-numeral}
use Rattle.test_lang.proofs.text.laws.numerals_are_read.Goals as goal

pub returns-clause-front : goal.returns-clause-front
returns-clause-front c = λ bytes n rest. (numeral_at-spelled bytes (n, rest), numeral_at-starts bytes n rest)

pub returns-clause-whole : goal.returns-clause-whole
returns-clause-whole c = λ bytes n. (whole_numeral-spelled bytes n, whole_numeral-of bytes n)

pub returns-clause-one : goal.returns-clause-one
returns-clause-one c = λ bytes n small. (λ h. numeral-is_decimal bytes n h small, λ e. subst (IsNumeralOf n) (sym e) (decimal-numeral n small))
