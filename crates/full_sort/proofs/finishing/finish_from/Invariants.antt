use Rattle.std.proofs.Common.{◌≡◌, ℕ, ◌≤◌, ◌+◌, ◌-◌, length, drop, take, true}
use Rattle.digraph.specs.Digraph.{edges_out}
use Rattle.full_sort.specs.Finishing.{IsSearchAt}
use Rattle.full_sort.specs.Waiting.{is_marked}
use Rattle.full_sort.proofs.SearchTicks.{path_unseen}
use Rattle.full_sort.proofs.finishing.finish_from.Given as goal

abbrev pub invariant-loop-top : goal.invariant-loop-top
invariant-loop-top g l = record {
  search : IsSearchAt l.graph.edges l.marks l.seen l.order l.done l.top;
  root : is_marked l.marks l.root ≡ true;
  kept : (t : ℕ) → is_marked l.fn.marks t ≡ true → is_marked l.marks t ≡ true;
  bound : l.steps + path_unseen l.graph.edges (drop l.top l.seen) (drop l.top l.order) + edges_out l.graph.edges (take l.fn.finished l.fn.order) ≤
      l.fn.steps + edges_out l.graph.edges (take l.done l.order) + edges_out l.graph.edges (drop l.top l.order);
  later : l.fn.steps ≤ l.steps;
}

abbrev pub decreases-loop-top : goal.decreases-loop-top
decreases-loop-top g l = (length l.order - l.done) + (l.top - l.done)
