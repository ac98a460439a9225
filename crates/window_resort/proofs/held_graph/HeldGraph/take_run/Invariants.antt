use Rattle.std.proofs.Common.{◌≡◌}
use Rattle.window_resort.specs.Tables.{HasHeldRoom, HoldsLoads}
use Rattle.window_resort.proofs.held_graph.HeldGraph.take_run.Given as goal

abbrev pub invariant-loop-rank : goal.invariant-loop-rank
invariant-loop-rank l = record {
  count : l.self.loads ≡ l.rank;
  room : HasHeldRoom l.fixed l.self.run.items l.self.starts.items;
  holds : HoldsLoads l.fixed l.run l.self.loads l.self.starts.items l.self.graph;
}
