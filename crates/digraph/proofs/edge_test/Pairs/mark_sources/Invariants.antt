use Rattle.std.proofs.Common.{◌<◌}
use Rattle.digraph.specs.Marks.{MarksWhere}
use Rattle.digraph.proofs.edge_test.Pairs.mark_sources.Given as goal

abbrev pub invariant-loop-node : goal.invariant-loop-node
invariant-loop-node g l = MarksWhere (λ x. (x < l.node) × g.Self.Pairs.edges l.self x l.to) l.mark l.fn.marks l.marks
