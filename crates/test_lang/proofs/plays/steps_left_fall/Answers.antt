use Rattle.test_lang.specs.Play.Plays.{final}
use Rattle.test_lang.proofs.PlayLaws.Moves.{coherent}
use Rattle.test_lang.proofs.PlayLaws.StepsLeft.{falls, ends, few}
use Rattle.test_lang.proofs.plays.steps_left_fall.Goals as goal

pub returns-clause-falls : goal.returns-clause-falls
returns-clause-falls c = λ target fault p steps step h enabled. falls target fault p (final target fault p steps) step (coherent target fault p steps h) enabled

pub returns-clause-ends : goal.returns-clause-ends
returns-clause-ends c = λ target fault p steps h. ends target fault p (final target fault p steps) (coherent target fault p steps h)

pub returns-clause-few : goal.returns-clause-few
returns-clause-few c = λ target fault p steps. few target fault p (final target fault p steps)
