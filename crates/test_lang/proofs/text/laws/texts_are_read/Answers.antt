use Rattle.std.proofs.Common.{subst}
use Rattle.test_lang.specs.Text.Refusal.{TextMeans}
use Rattle.test_lang.proofs.TextLemmas.Readings.{reading_means, means_reading}
use Rattle.test_lang.proofs.text.laws.texts_are_read.Goals as goal

pub returns : goal.returns
returns c = λ text meant. (λ e. subst (TextMeans text) e (reading_means text), means_reading text meant)
