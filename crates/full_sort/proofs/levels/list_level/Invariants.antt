use Rattle.std.proofs.Common.{◌≡◌, ◌<◌, ◌≤◌, ◌↔◌, ℕ, get_or, take, Contains}
use Rattle.full_sort.proofs.levels.list_level.Given as goal

abbrev pub invariant-loop-node : goal.invariant-loop-node
invariant-loop-node l = record {
  few : l.count ≤ l.node;
  lists : (y : ℕ) → Contains (take l.count l.list) y ↔ ((y < l.node) × (get_or l.levels y 0 ≡ l.level));
}
