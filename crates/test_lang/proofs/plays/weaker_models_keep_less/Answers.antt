use Rattle.test_lang.proofs.PlayLaws.Weaker.{weaker_by}
use Rattle.test_lang.proofs.plays.weaker_models_keep_less.Goals as goal

pub returns : goal.returns
returns c = λ m n p weaker. weaker_by p (c.each_model_keeps_the_next.ensures.tso p) (c.each_model_keeps_the_next.ensures.pso p) (c.each_model_keeps_the_next.ensures.weak p) m n weaker
