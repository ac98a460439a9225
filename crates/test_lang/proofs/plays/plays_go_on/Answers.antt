use Rattle.test_lang.proofs.PlayLaws.GoingOn.{goes_on}
use Rattle.test_lang.proofs.plays.plays_go_on.Goals as goal

pub returns : goal.returns
returns c = λ target fault p steps h not_done. goes_on target fault p steps h not_done
