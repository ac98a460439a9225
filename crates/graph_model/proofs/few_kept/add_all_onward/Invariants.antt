use Rattle.std.proofs.Common.{◌≡◌, ◌≤◌, ◌-◌, suc, length}
use Rattle.std.specs.List.{flat_map}
use Rattle.orders.specs.Orders.{nodes_below}
use Rattle.test_lang.specs.Program.{op_count}
use Rattle.graph_model.specs.FewKept.{edges_onward, with_edges}
use Rattle.graph_model.specs.NearestNodes.{Tells, first_passing}
use Rattle.graph_model.proofs.few_kept.add_all_onward.Given as goal

abbrev pub invariant-loop-node : goal.invariant-loop-node
invariant-loop-node l = record {
  within : l.node ≤ op_count l.test;
  added : l.graph ≡ with_edges l.initial.graph (flat_map (λ k. edges_onward l.model l.test (op_count l.test - suc k)) (nodes_below (op_count l.test - l.node)));
  told : Tells (first_passing l.test (op_count l.test - l.node)) l.nearest;
  words : length l.nearest.loads.items ≡ l.test.words;
}
