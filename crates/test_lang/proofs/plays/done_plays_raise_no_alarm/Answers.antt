use Rattle.test_lang.specs.declared.target.Fault.TheVariants.{None}
use Rattle.test_lang.specs.Kept.{IsKept}
use Rattle.test_lang.specs.Play.Machines.{model_of}
use Rattle.test_lang.specs.Play.Plays.{run_of, effects_of}
use Rattle.test_lang.proofs.PlayLaws.Edges.{ordered}
use Rattle.test_lang.proofs.PlayLaws.Inside.{inside}
use Rattle.test_lang.proofs.plays.done_plays_raise_no_alarm.Goals as goal

pub returns-clause-inside : goal.returns-clause-inside
returns-clause-inside c = λ target p steps limits h.
    inside (IsKept (model_of target) p) p (run_of target None p steps) (effects_of target None p steps) (c.models_keep_one_word.ensures (model_of target) p) (c.plays_explain_their_loads.ensures target p steps h) limits

pub returns-clause-ordered : goal.returns-clause-ordered
returns-clause-ordered c = λ target m p steps weaker h.
    ordered (IsKept (model_of target) p) p (run_of target None p steps) (effects_of target None p steps) (c.models_keep_one_word.ensures (model_of target) p) (c.plays_explain_their_loads.ensures target p steps h) (IsKept m p)
    (c.weaker_models_keep_less.ensures m (model_of target) p weaker)
