use Rattle.orders.proofs.LeastOrders.{one_least}
use Rattle.orders.proofs.one_least_order.Goals as goal

pub returns : goal.returns
returns g c = λ nodes a b. one_least g.R.Relation.edges nodes a b
