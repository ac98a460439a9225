use Rattle.test_lang.proofs.PlayLaws.GivenRuns.{play_gives_run}
use Rattle.test_lang.proofs.plays.plays_give_runs.Goals as goal

pub returns : goal.returns
returns c = λ target fault p steps limits. play_gives_run p limits target fault steps
