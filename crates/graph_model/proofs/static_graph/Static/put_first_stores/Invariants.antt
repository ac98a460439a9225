use Rattle.std.proofs.Common.{◌≡◌, ◌+◌, ◌++◌, ◌≤◌, take, map}
use Rattle.graph_model.proofs.static_graph.Static.put_first_stores.Given as goal

abbrev pub invariant-loop-store : goal.invariant-loop-store
invariant-loop-store l = record {
  put : take l.count l.out ≡ take l.initial.count l.initial.out ++ map (λ s. (l.load, s)) (take l.store-index l.store-items);
  few : l.count ≤ l.initial.count + l.store-index;
}
