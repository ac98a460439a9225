use Rattle.graph_model.proofs.WrittenBefore.{Passed}
use Rattle.graph_model.proofs.run_edges.written_before.Given as goal

abbrev pub invariant-loop-node : goal.invariant-loop-node
invariant-loop-node l = Passed l.test l.run l.from l.to l.node
