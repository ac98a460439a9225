use Rattle.std.proofs.Common.{subst}
use Rattle.test_lang.specs.Edges.{Edge}
use Rattle.digraph.specs.Marks.{MarksSources}
use Rattle.graph_model.specs.RunGraph.{RunGraph}
use Rattle.graph_model.proofs.static_graph.full_graph.FullPairs.mark_sources.Goals as goal

pub returns : goal.returns
returns c = subst (λ (g : RunGraph). MarksSources (Edge g.model g.test g.run) c.args.to c.args.mark c.args.marks.now c.mark_sources.new.marks) c.self.view_is c.mark_sources.ensures
