use Rattle.orders.proofs.CyclesOfPaths.{cycle_of_reach, reach_of_cycle}
use Rattle.orders.proofs.cycles_are_paths_back.Goals as goal

pub returns : goal.returns
returns g c = λ node. (reach_of_cycle g.R.Relation.edges node, cycle_of_reach g.R.Relation.edges node)
