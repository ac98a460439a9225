use Rattle.std.proofs.Common.{◌≡◌, ◌≤◌, ◌*◌, take}
use Rattle.std.specs.List.{flat_map}
use Rattle.test_lang.specs.Values.{load_nodes}
use Rattle.graph_model.specs.LoadEdges.{edges_of_load, load_edge_room}
use Rattle.graph_model.proofs.static_graph.Static.put_loads.Given as goal

abbrev pub invariant-loop-rank : goal.invariant-loop-rank
invariant-loop-rank l = record {
  put : take l.count l.out ≡ flat_map (edges_of_load l.self.test l.run) (take l.rank (load_nodes l.self.test));
  few : l.count ≤ l.rank * load_edge_room l.self.test;
}
