use Rattle.test_lang.proofs.Ranks.{rank_of-lt}
use Rattle.test_lang.proofs.test.Test.rank_of.Goals as goal

pub returns-clause-in_range : goal.returns-clause-in_range
returns-clause-in_range c = rw c.row.ensures.row.has_rank (rank_of-lt c.args.self.now c.args.load_node c.requires)
