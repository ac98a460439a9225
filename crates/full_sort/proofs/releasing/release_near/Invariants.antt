use Rattle.std.proofs.Common.{◌≡◌, ℕ, ◌+◌, ◌<◌, ◌≤◌, get_or, length, take}
use Rattle.full_sort.specs.Ready.{GainsFreed, HasRoom, IsHeld, times_in}
use Rattle.full_sort.proofs.releasing.release_near.Given as goal

abbrev pub invariant-loop-target : goal.invariant-loop-target
invariant-loop-target g l = record {
  counted : (t : ℕ) → t < l.graph.nodes → get_or l.counts t 0 + times_in (take l.target-index l.target-items) t ≡ get_or l.fn.counts t 0;
  spare : get_or l.fn.counts l.graph.nodes 0 ≤ get_or l.counts l.graph.nodes 0 + l.target-index;
  fewer : (t : ℕ) → get_or l.counts t 0 ≤ get_or l.fn.counts t 0;
  counts_room : length l.counts ≡ length l.fn.counts;
  gained : GainsFreed (IsHeld l.fn.ready l.fn.kept) (IsHeld l.ready l.kept) l.marks l.fn.counts l.counts;
  kept : HasRoom l.ready l.kept;
  room : length l.ready ≡ length l.fn.ready;
}
