use Rattle.std.proofs.Common.{◌≡◌, ℕ, ◌+◌, ◌<◌, None, get_or, length, drop}
use Rattle.digraph.specs.Digraph.{out_degree}
use Rattle.full_sort.specs.Ready.{GainsFreed, HasRoom, IsHeld}
use Rattle.full_sort.specs.Waiting.{count_between}
use Rattle.full_sort.proofs.Walk.{walk_start, IsWalk, given}
use Rattle.full_sort.proofs.releasing.release_far.Given as goal

abbrev pub invariant-loop : goal.invariant-loop
invariant-loop g l = record {
  walk : IsWalk l.graph.edges l.node l.next;
  turns : out_degree (drop (walk_start l.next) l.graph.edges) l.node + 1 ≡ l.counter;
  counted : (t : ℕ) → t < l.graph.nodes → get_or l.counts t 0 + count_between (drop (walk_start l.next) l.graph.edges) l.node t ≡ get_or l.fn.counts t 0;
  spare : get_or l.counts l.graph.nodes 0 ≡ get_or l.fn.counts l.graph.nodes 0;
  counts_room : length l.counts ≡ length l.fn.counts;
  gained : GainsFreed (IsHeld l.fn.ready None) (IsHeld l.ready l.kept) l.marks l.fn.counts l.counts;
  kept : HasRoom l.ready l.kept;
  room : length l.ready ≡ length l.fn.ready;
  ticked : l.steps ≡ l.fn.steps + out_degree (drop (walk_start l.next) l.graph.edges) l.node + given l.next;
}
