use Rattle.std.proofs.Common.{◌≡◌, ℕ, ◌+◌, ◌<◌, ◌≤◌, get_or, length, take}
use Rattle.full_sort.specs.Ready.{times_in}
use Rattle.full_sort.proofs.waiting.raise_near.Given as goal

abbrev pub invariant-loop-target : goal.invariant-loop-target
invariant-loop-target g l = record {
  counted : (t : ℕ) → t < l.graph.nodes → get_or l.waiting t 0 ≡ get_or l.fn.waiting t 0 + times_in (take l.target-index l.target-items) t;
  spare : get_or l.waiting l.graph.nodes 0 ≤ l.target-index;
  long : length l.waiting ≡ l.graph.nodes + 1;
}
