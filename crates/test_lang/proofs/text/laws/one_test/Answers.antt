use Rattle.std.proofs.Common.{sym, ◌∙◌, Ok}
use Rattle.test_lang.proofs.TextLemmas.Readings.{means_reading}
use Rattle.test_lang.proofs.text.laws.one_test.Goals as goal

pub returns : goal.returns
returns c = λ text p q left right. let same = sym (means_reading text (Ok p) left) ∙ means_reading text (Ok q) right in cc
