use Rattle.std.proofs.Common.{ℕ, ◌<◌, get_or, Contains}
use Rattle.test_lang.specs.Edges.{Edge}
use Rattle.window_resort.proofs.plain.is_ready.Given as goal

abbrev pub invariant-loop-before : goal.invariant-loop-before
invariant-loop-before l = (i : ℕ) → i < l.before-index → Edge l.graph.model l.graph.test.now l.graph.run.now (get_or l.nodes i 0) l.fn.node → Contains l.placed (get_or l.nodes i 0)
