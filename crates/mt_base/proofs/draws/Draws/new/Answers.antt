use Rattle.std.proofs.Common.{◌∙◌}
use Rattle.mt_base.proofs.WordLemmas.{draws_after_none}
use Rattle.mt_base.proofs.draws.Draws.new.Goals as goal

pub returns : goal.returns
returns c = c.new.ensures ∙ draws_after_none c.args.seed c.args.stream
