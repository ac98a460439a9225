use Rattle.std.proofs.Common.{◌≡◌, ◌≤◌, get_or, take}
use Rattle.full_sort.specs.Levels.{IsLevelled, IsFront}
use Rattle.full_sort.proofs.levels.measure.Given as goal

abbrev pub invariant-loop-done : goal.invariant-loop-done
invariant-loop-done g l = record {
  levelled : IsLevelled (g.P.Pairs.edges l.pairs) l.nodes l.end l.done l.levels;
  front : IsFront (g.P.Pairs.edges l.pairs) l.end l.done (take l.count l.list);
  few : l.count ≤ l.nodes;
  open_end : get_or l.levels l.end 0 ≡ 0;
}
