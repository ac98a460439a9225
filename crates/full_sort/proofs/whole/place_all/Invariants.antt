use Rattle.std.proofs.Common.{◌≡◌, ℕ, ◌+◌, ◌<◌, ◌≤◌, get_or, take, length, All, true, false}
use Rattle.std.specs.Prelude.{sum_by, replicate}
use Rattle.orders.specs.Choices.{IsNext}
use Rattle.orders.specs.Orders.{nodes_below}
use Rattle.digraph.specs.Digraph.{HasEdge, out_degree}
use Rattle.full_sort.specs.Waiting.{is_marked, marked_of, without_marks}
use Rattle.full_sort.specs.Ready.{HasRoom}
use Rattle.full_sort.proofs.Holding.{HoldsFree}
use Rattle.full_sort.proofs.State.{IsState}
use Rattle.full_sort.proofs.whole.place_all.Given as goal

abbrev pub invariant-loop-k : goal.invariant-loop-k
invariant-loop-k g l = record {
  state : IsState l.graph.edges (nodes_below l.graph.nodes) (take l.k l.placed) l.graph.nodes (take l.graph.nodes l.counts) (without_marks (replicate l.graph.nodes true) (take l.k l.placed));
  next : (i : ℕ) → i < l.k → IsNext (HasEdge l.graph.edges) (nodes_below l.graph.nodes) (take i l.placed) (get_or l.placed i 0);
  inside : All (λ n. n < l.graph.nodes) (take l.k l.placed);
  free : HoldsFree l.ready l.kept (take l.graph.nodes l.counts) (without_marks (replicate l.graph.nodes true) (take l.k l.placed));
  settled : (t : ℕ) → is_marked (without_marks (replicate l.graph.nodes true) (take l.k l.placed)) t ≡ false → get_or (take l.graph.nodes l.counts) t 0 ≡ 0;
  counts_room : length l.counts ≡ l.graph.nodes + 1;
  kept : HasRoom l.ready l.kept;
  room : length l.ready ≡ length l.fn.ready;
  ticked : l.steps + sum_by (out_degree l.graph.edges) (marked_of (without_marks (replicate l.graph.nodes true) (take l.k l.placed)) (nodes_below l.graph.nodes)) ≡ l.fn.steps + sum_by (out_degree l.graph.edges) (nodes_below l.graph.nodes);
  later : l.fn.steps ≤ l.steps;
}
