use Rattle.graph_model.proofs.RunOrders.{reach_iff, order_iff, least_iff, none_iff, cycle_iff}
use Rattle.graph_model.proofs.reduction.few_edges_order_a_run.Goals as goal

pub returns-clause-reach : goal.returns-clause-reach
returns-clause-reach c = reach_iff

pub returns-clause-orders : goal.returns-clause-orders
returns-clause-orders c = order_iff

pub returns-clause-least : goal.returns-clause-least
returns-clause-least c = least_iff

pub returns-clause-none : goal.returns-clause-none
returns-clause-none c = none_iff

pub returns-clause-cycles : goal.returns-clause-cycles
returns-clause-cycles c = cycle_iff
