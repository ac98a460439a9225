use Rattle.verdict_report.proofs.Digits.{hex_word-spelled}
use Rattle.verdict_report.proofs.laws.words_are_spelled.Goals as goal

pub returns : goal.returns
returns c = λ word small. hex_word-spelled word small
