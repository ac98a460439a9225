use Rattle.window_resort.proofs.BackwardEdges.{window_of_all, window_of_few}
use Rattle.window_resort.proofs.WindowOrders.{least_of_window}
use Rattle.window_resort.proofs.laws.few_edges_have_the_window_of_all.Goals as goal

pub returns-clause-window : goal.returns-clause-window
returns-clause-window g c = λ order window within. (
  window_of_few g.E.Relation.edges g.F.Relation.edges order c.requires.among c.requires.reaching within window,
  window_of_all g.E.Relation.edges g.F.Relation.edges order c.requires.among c.requires.reaching within window,
)

pub returns-clause-least : goal.returns-clause-least
returns-clause-least g c = λ order nodes window within span least.
    least_of_window g.E.Relation.edges g.F.Relation.edges order c.requires.among c.requires.reaching within window span nodes least
