use Rattle.test_lang.proofs.Ranks.{value_of-le}
use Rattle.test_lang.proofs.test.Test.value_of.Goals as goal

pub returns-clause-few : goal.returns-clause-few
returns-clause-few c = rw c.row.ensures.row.has_value (value_of-le c.args.self.now c.args.store_node c.requires)
