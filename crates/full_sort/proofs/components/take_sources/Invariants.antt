use Rattle.std.proofs.Common.{◌≡◌, ◌≢◌, ◌≤◌, ◌+◌, ℕ, length, get_or, take}
use Rattle.digraph.specs.Digraph.{HasEdge, in_degree, source_of, target_of}
use Rattle.full_sort.specs.Components.{GivesNumber}
use Rattle.full_sort.specs.Finishing.{IsListOf}
use Rattle.full_sort.proofs.EdgeWalks.{IsWalkOver}
use Rattle.full_sort.proofs.Ticks.{ahead}
use Rattle.full_sort.proofs.Walk.{walk_start}
use Rattle.full_sort.proofs.components.take_sources.Given as goal

abbrev pub invariant-loop-next : goal.invariant-loop-next
invariant-loop-next g l = record {
  walk : IsWalkOver (target_of l.graph.edges) l.node (length l.graph.edges) (λ (e : ℕ). get_or l.numbers (source_of l.graph.edges e) 0 ≢ 0) l.next;
  listed : IsListOf (λ (t : ℕ). get_or l.numbers t 0 ≡ l.number) (take l.taken l.queue);
  few : l.taken ≤ length l.queue;
  more : l.count ≤ l.taken;
  front : take l.count l.queue ≡ take l.count l.fn.queue;
  given : GivesNumber (λ (t : ℕ). HasEdge l.graph.edges t l.node) l.number l.fn.numbers l.numbers;
  ticked : l.steps + ahead (λ x. x.1) l.graph.edges l.node l.next ≡ l.fn.steps + in_degree l.graph.edges l.node;
}

abbrev pub decreases-loop-next : goal.decreases-loop-next
decreases-loop-next g l = walk_start l.next
