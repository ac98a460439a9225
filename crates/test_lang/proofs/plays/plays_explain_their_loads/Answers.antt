use Rattle.test_lang.proofs.PlayLaws.Explaining.{explains}
use Rattle.test_lang.proofs.plays.plays_explain_their_loads.Goals as goal

pub returns : goal.returns
returns c = λ target p steps h. explains target p steps h
