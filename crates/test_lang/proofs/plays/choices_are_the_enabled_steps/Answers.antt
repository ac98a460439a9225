use Rattle.test_lang.specs.Play.Plays.{final}
use Rattle.test_lang.proofs.PlayLaws.ChoiceLists.{chosen, chosen_back}
use Rattle.test_lang.proofs.plays.choices_are_the_enabled_steps.Goals as goal

pub returns : goal.returns
returns c = λ target fault p steps step h. (chosen_back target fault p (final target fault p steps) step, chosen target fault p (final target fault p steps) step)
