use Rattle.orders.proofs.NextNodes.{next-least}
use Rattle.orders.proofs.next_nodes_are_least.Goals as goal

pub returns : goal.returns
returns g c = next-least g.R.Relation.edges
