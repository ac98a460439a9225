use Rattle.orders.proofs.CyclesOfPaths.{reach_leaves_none, reach_of_cycle}
use Rattle.orders.proofs.a_cycle_leaves_no_order.Goals as goal

pub returns : goal.returns
returns g c = λ nodes within node cycle. reach_leaves_none g.R.Relation.edges nodes within node (reach_of_cycle g.R.Relation.edges node cycle)
