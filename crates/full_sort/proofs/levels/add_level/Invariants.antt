use Rattle.std.proofs.Common.{take}
use Rattle.digraph.specs.Marks.{MarksWhere}
use Rattle.full_sort.specs.Levels.{Touches}
use Rattle.full_sort.proofs.levels.add_level.Given as goal

abbrev pub invariant-loop-target : goal.invariant-loop-target
invariant-loop-target g l = MarksWhere (λ x. Touches (g.P.Pairs.edges l.pairs) x (take l.target-index l.list)) l.level l.fn.levels l.levels
