use Rattle.std.proofs.Common.{◌≡◌, ◌≤◌, ◌+◌, ℕ, length, get_or}
use Rattle.digraph.specs.Digraph.{out_degree, source_of, target_of}
use Rattle.full_sort.proofs.EdgeWalks.{IsWalkOver}
use Rattle.full_sort.proofs.Ticks.{ahead}
use Rattle.full_sort.proofs.Walk.{walk_start}
use Rattle.full_sort.proofs.cyclic.leads_within.Given as goal

abbrev pub invariant-loop-next : goal.invariant-loop-next
invariant-loop-next g l = record {
  walk : IsWalkOver (source_of l.graph.edges) l.node (length l.graph.edges) (λ (e : ℕ). get_or l.numbers (target_of l.graph.edges e) 0 ≡ get_or l.numbers l.node 0 → ⊥) l.next;
  ticked : l.steps + ahead (λ x. x.0) l.graph.edges l.node l.next ≡ l.fn.steps + out_degree l.graph.edges l.node;
  later : l.fn.steps ≤ l.steps;
}

abbrev pub decreases-loop-next : goal.decreases-loop-next
decreases-loop-next g l = walk_start l.next
