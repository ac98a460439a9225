use Rattle.std.proofs.Common.{◌≡◌, take}
use Rattle.graph_model.proofs.static_graph.Static.dynamic_into.Given as goal

abbrev pub invariant-loop-edge : goal.invariant-loop-edge
invariant-loop-edge g l = l.out ≡ record l.initial.out { list = take l.edge-index l.edge-items }
