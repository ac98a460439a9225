use Rattle.window_resort.proofs.InPlace.{order_as_it_is, order_in_place}
use Rattle.window_resort.proofs.laws.an_order_of_the_window_is_put_in_place.Goals as goal

pub returns-clause-kept : goal.returns-clause-kept
returns-clause-kept g c = λ nodes order same once none. order_as_it_is g.E.Relation.edges nodes order same once c.requires none

pub returns-clause-placed : goal.returns-clause-placed
returns-clause-placed g c = λ nodes order some window same once span o. order_in_place g.E.Relation.edges nodes order some window same once c.requires span o
