use Rattle.sim_core.proofs.DrawnPlays.{drawn_runs_are_runs, one_drawn_runs, some_drawn_runs}
use Rattle.sim_core.proofs.drawn.one_list_of_drawn_runs.Goals as goal

pub returns-clause-some : goal.returns-clause-some
returns-clause-some c = some_drawn_runs

pub returns-clause-one : goal.returns-clause-one
returns-clause-one c = one_drawn_runs

pub returns-clause-runs : goal.returns-clause-runs
returns-clause-runs c = drawn_runs_are_runs
