use Rattle.window_resort.proofs.WindowOrders.{no_order_of_some}
use Rattle.window_resort.proofs.laws.no_order_of_some_leaves_none.Goals as goal

pub returns : goal.returns
returns c = no_order_of_some
