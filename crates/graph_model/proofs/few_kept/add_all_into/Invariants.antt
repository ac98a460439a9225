use Rattle.std.proofs.Common.{◌≡◌, length}
use Rattle.std.specs.List.{flat_map}
use Rattle.orders.specs.Orders.{nodes_below}
use Rattle.graph_model.specs.FewKept.{edges_into, with_edges}
use Rattle.graph_model.specs.NearestNodes.{Tells, last_node}
use Rattle.graph_model.proofs.few_kept.add_all_into.Given as goal

abbrev pub invariant-loop-node : goal.invariant-loop-node
invariant-loop-node l = record {
  added : l.graph ≡ with_edges l.initial.graph (flat_map (edges_into l.model l.test) (nodes_below l.node));
  told : Tells (last_node l.test l.node) l.nearest;
  words : length l.nearest.loads.items ≡ l.test.words;
}
