use Rattle.tally.proofs.OneTally.{one_tally}
use Rattle.tally.proofs.laws.one_tally.Goals as goal

pub returns : goal.returns
returns c = one_tally
