use Rattle.std.proofs.Common.{subst}
use Rattle.std.specs.Prelude.{◌↔◌, IsTrue}
use Rattle.test_lang.specs.Edges.{Edge}
use Rattle.graph_model.specs.RunGraph.{RunGraph}
use Rattle.graph_model.proofs.static_graph.full_graph.FullPairs.edge.Goals as goal

pub returns : goal.returns
returns c = subst (λ (g : RunGraph). IsTrue c.edge.result ↔ Edge g.model g.test g.run c.args.from c.args.to) c.self.view_is c.edge.ensures
