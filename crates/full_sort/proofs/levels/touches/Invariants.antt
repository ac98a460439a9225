use Rattle.std.proofs.Common.{◌<◌, ℕ, get_or}
use Rattle.full_sort.proofs.levels.touches.Given as goal

abbrev pub invariant-loop-target : goal.invariant-loop-target
invariant-loop-target g l = (k : ℕ) → k < l.target-index → g.P.Pairs.edges l.pairs l.node (get_or l.list k 0) → ⊥
