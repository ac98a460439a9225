use Rattle.std.proofs.Common.{◌≡◌, take}
use Rattle.std.specs.List.{flat_map}
use Rattle.graph_model.specs.FewKept.{edge_from, last_of_kind, with_edges}
use Rattle.graph_model.proofs.few_kept.add_into.Given as goal

abbrev pub invariant-loop-kind : goal.invariant-loop-kind
invariant-loop-kind l = l.graph ≡ with_edges l.initial.graph (flat_map (λ kind. edge_from l.node (last_of_kind kind l.test l.node)) (take l.kind-index l.kinds))
