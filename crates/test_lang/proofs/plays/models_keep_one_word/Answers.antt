use Rattle.test_lang.proofs.PlayLaws.Words.{models_one_word}
use Rattle.test_lang.proofs.plays.models_keep_one_word.Goals as goal

pub returns : goal.returns
returns c = λ m p. models_one_word m p
