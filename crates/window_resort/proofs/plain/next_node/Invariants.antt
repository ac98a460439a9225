use Rattle.test_lang.specs.Edges.{Edge}
use Rattle.window_resort.proofs.NextOfAll.{LeastSoFar}
use Rattle.window_resort.proofs.plain.next_node.Given as goal

abbrev pub invariant-loop-node : goal.invariant-loop-node
invariant-loop-node l = LeastSoFar (Edge l.graph.model l.graph.test.now l.graph.run.now) l.nodes l.placed l.node-index l.next
