use Rattle.std.proofs.Common.{◌+◌, ◌≤◌}
use Rattle.digraph.specs.Digraph.{HasEdge}
use Rattle.full_sort.specs.Components.{edges_unnumbered}
use Rattle.full_sort.proofs.ComponentSteps.{IsNumberedFrom}
use Rattle.full_sort.proofs.components.number_components.Given as goal

abbrev pub invariant-loop-place : goal.invariant-loop-place
invariant-loop-place g l = record {
  numbered : IsNumberedFrom (HasEdge l.graph.edges) l.order l.numbers l.place;
  bound : l.steps + edges_unnumbered l.graph.edges l.graph.nodes l.numbers ≤ l.fn.steps + edges_unnumbered l.graph.edges l.graph.nodes l.fn.numbers;
  later : l.fn.steps ≤ l.steps;
}
