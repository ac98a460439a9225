use Rattle.std.proofs.Common.{◌≡◌, ◌<◌, ℕ, get_or}
use Rattle.full_sort.proofs.shortest.least_of_level.Given as goal

abbrev pub invariant-loop-target : goal.invariant-loop-target
invariant-loop-target g l = (z : ℕ) → z < l.target → get_or l.levels z 0 ≡ l.level → g.P.Pairs.edges l.pairs l.node z → ⊥
