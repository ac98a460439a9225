use Rattle.orders.proofs.NextNodes.{stuck-none}
use Rattle.orders.proofs.stuck_nodes_have_no_order.Goals as goal

pub returns : goal.returns
returns g c = stuck-none g.R.Relation.edges
