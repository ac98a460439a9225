use Rattle.std.proofs.Common.{◌≡◌, ℕ, ◌+◌, ◌<◌, true, get_or, take, All, Contains}
use Rattle.std.specs.Prelude.{sum_by}
use Rattle.digraph.specs.Digraph.{out_degree}
use Rattle.full_sort.specs.Waiting.{count_into, is_marked}
use Rattle.full_sort.proofs.window.count_window.Given as goal

abbrev pub invariant-loop-node : goal.invariant-loop-node
invariant-loop-node g l = record {
  counted : (t : ℕ) → t < l.graph.nodes → get_or l.waiting t 0 ≡ count_into l.graph.edges (take l.node-index l.window) t;
  marked : All (λ z. is_marked l.marks z ≡ true) (take l.node-index l.window);
  only : (t : ℕ) → is_marked l.marks t ≡ true → Contains (take l.node-index l.window) t;
  ticked : l.steps ≡ l.fn.steps + sum_by (out_degree l.graph.edges) (take l.node-index l.window);
}
