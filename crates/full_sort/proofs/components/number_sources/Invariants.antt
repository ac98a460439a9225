use Rattle.std.proofs.Common.{◌≡◌, ◌+◌, ◌-◌, length, take}
use Rattle.digraph.specs.Digraph.{HasEdge, edges_in}
use Rattle.full_sort.proofs.Numbering.{IsTaking}
use Rattle.full_sort.proofs.components.number_sources.Given as goal

abbrev pub invariant-loop-done : goal.invariant-loop-done
invariant-loop-done g l = record {
  taking : IsTaking (HasEdge l.graph.edges) l.root l.number l.fn.numbers l.numbers l.queue l.count l.done;
  ticked : l.steps ≡ l.fn.steps + edges_in l.graph.edges (take l.done l.queue);
}

abbrev pub decreases-loop-done : goal.decreases-loop-done
decreases-loop-done g l = length l.initial.queue - l.done
