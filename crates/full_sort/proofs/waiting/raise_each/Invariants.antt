use Rattle.std.proofs.Common.{◌≡◌, ℕ, ◌+◌, ◌<◌, get_or, drop}
use Rattle.digraph.specs.Digraph.{out_degree}
use Rattle.full_sort.specs.Waiting.{count_between}
use Rattle.full_sort.proofs.Walk.{walk_start, IsWalk, given}
use Rattle.full_sort.proofs.waiting.raise_each.Given as goal

abbrev pub invariant-loop-next : goal.invariant-loop-next
invariant-loop-next g l = record {
  walk : IsWalk l.graph.edges l.node l.next;
  counted : (t : ℕ) → t < l.graph.nodes → get_or l.waiting t 0 ≡ get_or l.fn.waiting t 0 + count_between (drop (walk_start l.next) l.graph.edges) l.node t;
  ticked : l.steps ≡ l.fn.steps + out_degree (drop (walk_start l.next) l.graph.edges) l.node + given l.next;
}

abbrev pub decreases-loop-next : goal.decreases-loop-next
decreases-loop-next g l = walk_start l.next
