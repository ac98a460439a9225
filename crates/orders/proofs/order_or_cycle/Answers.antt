use Rattle.orders.proofs.OrderOrCycle.{order_or_cycle_lem}
use Rattle.orders.proofs.order_or_cycle.Goals as goal

pub returns : goal.returns
returns c = λ edge nodes once. order_or_cycle_lem edge nodes once
