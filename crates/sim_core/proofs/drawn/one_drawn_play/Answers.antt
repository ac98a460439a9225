use Rattle.sim_core.proofs.DrawnPlays.{one_drawn_play, some_drawn_play}
use Rattle.sim_core.proofs.drawn.one_drawn_play.Goals as goal

pub returns-clause-some : goal.returns-clause-some
returns-clause-some c = some_drawn_play

pub returns-clause-one : goal.returns-clause-one
returns-clause-one c = one_drawn_play
