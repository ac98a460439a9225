use Rattle.orders.proofs.FewEdges.{reach_by_few, reach_by_all, order_by_few, order_by_all, least_order_by_few, least_order_by_all, no_order_by_few, no_order_by_all}
use Rattle.orders.proofs.few_edges_order_as_all.Goals as goal

pub returns-clause-reach : goal.returns-clause-reach
returns-clause-reach g c = λ a b.
    (reach_by_few g.E.Relation.edges g.F.Relation.edges c.requires.reaching a b, reach_by_all g.E.Relation.edges g.F.Relation.edges c.requires.among a b)

pub returns-clause-orders : goal.returns-clause-orders
returns-clause-orders g c = λ nodes order within.
    (order_by_few g.E.Relation.edges g.F.Relation.edges c.requires.among nodes order, order_by_all g.E.Relation.edges g.F.Relation.edges c.requires.among c.requires.reaching nodes order within)

pub returns-clause-least : goal.returns-clause-least
returns-clause-least g c = λ nodes order within.
    (least_order_by_few g.E.Relation.edges g.F.Relation.edges c.requires.among c.requires.reaching nodes order within, least_order_by_all g.E.Relation.edges g.F.Relation.edges c.requires.among c.requires.reaching nodes order within)

pub returns-clause-none : goal.returns-clause-none
returns-clause-none g c = λ nodes within.
    (no_order_by_few g.E.Relation.edges g.F.Relation.edges c.requires.among c.requires.reaching nodes within, no_order_by_all g.E.Relation.edges g.F.Relation.edges c.requires.among nodes)
