use Rattle.std.proofs.Common.{◌≡◌, ◌+◌, length, take}
use Rattle.graph_model.proofs.static_graph.Static.graph_with_room.Given as goal

abbrev pub invariant-loop-edge : goal.invariant-loop-edge
invariant-loop-edge l = l.copy ≡ record {
  nodes = l.self-inside.graph.nodes;
  room = length l.self-inside.graph.edges + l.more;
  edges = take l.edge l.self-inside.graph.edges;
}
