use Rattle.window_resort.proofs.Comparing.{Compared}
use Rattle.window_resort.proofs.load_rows.compare_loads.Given as goal

abbrev pub invariant-loop-rank : goal.invariant-loop-rank
invariant-loop-rank g l = Compared l.fixed.test l.base l.run l.places l.rank l.fresh l.window l.initial.steps l.steps
