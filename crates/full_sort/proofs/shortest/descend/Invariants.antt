use Rattle.std.proofs.Common.{◌≡◌, ◌<◌, ◌≤◌, ◌+◌, ◌++◌, ◌∷◌, ℕ, List, length}
use Rattle.full_sort.specs.Levels.{IsShortest}
use Rattle.full_sort.proofs.Descents.{IsDescent}
use Rattle.full_sort.proofs.shortest.descend.Given as goal

abbrev pub invariant-loop-level : goal.invariant-loop-level
invariant-loop-level g l = record {
  inside : l.current < g.P.Pairs.node_count l.pairs;
  distance_is : IsShortest (g.P.Pairs.edges l.pairs) l.current l.start l.level;
  some : 1 ≤ l.level;
  few : l.level ≤ l.distance;
  room : l.cycle.room ≡ l.fn.cycle.room;
  count : length l.cycle.list + l.level ≡ l.distance + 1;
  taken : (taken : List ℕ) × (l.cycle.list ≡ l.start ∷ taken) × ((tail : List ℕ) → IsDescent (g.P.Pairs.edges l.pairs) (g.P.Pairs.node_count l.pairs) l.levels l.start l.current l.level tail
      → IsDescent (g.P.Pairs.edges l.pairs) (g.P.Pairs.node_count l.pairs) l.levels l.start l.start l.distance (taken ++ tail));
}

abbrev pub decreases-loop-level : goal.decreases-loop-level
decreases-loop-level g l = l.level
