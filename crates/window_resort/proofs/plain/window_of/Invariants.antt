use Rattle.test_lang.specs.Edges.{Edge}
use Rattle.window_resort.specs.Windows.{IsSpan}
use Rattle.window_resort.proofs.Pairing.{Met}
use Rattle.window_resort.proofs.plain.window_of.Given as goal

abbrev pub invariant-loop-source : goal.invariant-loop-source
invariant-loop-source l = IsSpan (Met (Edge l.graph.model l.graph.test.now l.graph.run.now) l.order l.source 0) l.window

abbrev pub invariant-loop-target : goal.invariant-loop-target
invariant-loop-target l = IsSpan (Met (Edge l.graph.model l.graph.test.now l.graph.run.now) l.order l.source l.target) l.window
