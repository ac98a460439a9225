use Rattle.std.proofs.Common.{◌≡◌, ◌≤◌, ◌+◌, ℕ, length, true}
use Rattle.digraph.specs.Digraph.{source_of, target_of}
use Rattle.full_sort.specs.Finishing.{unseen}
use Rattle.full_sort.specs.Waiting.{is_marked}
use Rattle.full_sort.proofs.EdgeWalks.{IsWalkOver}
use Rattle.full_sort.proofs.Ticks.{ahead}
use Rattle.full_sort.proofs.Walk.{walk_start}
use Rattle.full_sort.proofs.finishing.next_unmarked.Given as goal

abbrev pub invariant-loop-next : goal.invariant-loop-next
invariant-loop-next g l = record {
  walk : IsWalkOver (source_of l.graph.edges) l.node (length l.graph.edges) (λ (e : ℕ). is_marked l.marks (target_of l.graph.edges e) ≡ true) l.next;
  ticked : l.steps + ahead (λ x. x.0) l.graph.edges l.node l.next ≡ l.fn.steps + unseen l.graph.edges l.node l.fn.seen;
  later : l.fn.steps ≤ l.steps;
}

abbrev pub decreases-loop-next : goal.decreases-loop-next
decreases-loop-next g l = walk_start l.next
