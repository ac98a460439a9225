use Rattle.std.proofs.Common.{◌≡◌, ℕ, ◌+◌, ◌<◌, ◌≤◌, length, take, true}
use Rattle.digraph.specs.Digraph.{edges_out}
use Rattle.full_sort.specs.Finishing.{IsSearchAt}
use Rattle.full_sort.specs.Waiting.{is_marked}
use Rattle.full_sort.proofs.finishing.finishing_order.Given as goal

abbrev pub invariant-loop-root : goal.invariant-loop-root
invariant-loop-root g l = record {
  search : IsSearchAt l.graph.edges l.marks l.seen l.order l.done (length l.order);
  found : (t : ℕ) → t < l.root → is_marked l.marks t ≡ true;
  bound : l.steps ≤ l.fn.steps + edges_out l.graph.edges (take l.done l.order);
  later : l.fn.steps ≤ l.steps;
}
