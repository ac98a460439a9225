use Rattle.window_resort.proofs.Comparing.{Accepting}
use Rattle.window_resort.proofs.load_rows.accept_loads.Given as goal

abbrev pub invariant-loop-rank : goal.invariant-loop-rank
invariant-loop-rank l = Accepting l.fixed.test l.run l.initial.rows l.initial.fresh l.rank l.rows l.fresh
