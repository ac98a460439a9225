use Rattle.std.proofs.Common.{◌≡◌, ℕ, ◌+◌, ◌<◌, get_or, take, length}
use Rattle.std.specs.Prelude.{sum_by}
use Rattle.orders.specs.Choices.{IsNext}
use Rattle.digraph.specs.Digraph.{HasEdge, out_degree}
use Rattle.full_sort.specs.Ready.{HasRoom}
use Rattle.full_sort.specs.Waiting.{marked_of}
use Rattle.full_sort.proofs.Holding.{HoldsFree}
use Rattle.full_sort.proofs.State.{IsState}
use Rattle.full_sort.proofs.window.place_window.Given as goal

abbrev pub invariant-loop-k : goal.invariant-loop-k
invariant-loop-k g l = record {
  state : IsState l.graph.edges l.window (take l.k l.placed) l.graph.nodes l.waiting l.marks;
  next : (i : ℕ) → i < l.k → IsNext (HasEdge l.graph.edges) l.window (take i l.placed) (get_or l.placed i 0);
  free : HoldsFree l.ready l.kept l.waiting l.marks;
  kept : HasRoom l.ready l.kept;
  room : length l.ready ≡ length l.fn.ready;
  ticked : l.steps + sum_by (out_degree l.graph.edges) (marked_of l.marks l.window) ≡ l.fn.steps + sum_by (out_degree l.graph.edges) l.window;
}
