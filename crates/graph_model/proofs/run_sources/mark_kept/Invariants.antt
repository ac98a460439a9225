use Rattle.std.proofs.Common.{◌<◌, IsTrue}
use Rattle.test_lang.specs.Kept.{is_kept}
use Rattle.digraph.specs.Marks.{MarksWhere}
use Rattle.graph_model.proofs.run_sources.mark_kept.Given as goal

abbrev pub invariant-loop-node : goal.invariant-loop-node
invariant-loop-node l = MarksWhere (λ a. (a < l.node) × IsTrue (is_kept l.model l.test a l.to)) l.mark l.fn.marks l.marks
