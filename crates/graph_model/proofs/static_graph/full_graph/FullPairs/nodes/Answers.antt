use Rattle.std.proofs.Common.{arith, ap}
use Rattle.test_lang.specs.Program.{op_count}
use Rattle.test_lang.proofs.EdgeTests.{edge-nodes}
use Rattle.graph_model.specs.RunGraph.{RunGraph}
use Rattle.graph_model.proofs.static_graph.full_graph.FullPairs.nodes.Goals as goal

pub returns-clause-inside : goal.returns-clause-inside
returns-clause-inside c = λ a b edge.
    let same = ap (λ (g : RunGraph). op_count g.test) c.self.view_is in
    let count = c.ops.ensures.count in
    let ends = edge-nodes c.args.self.now.model c.args.self.now.test c.args.self.now.run a b edge in
    let first = ends.0 in
    let second = ends.1 in
    (omega (arith, same, count, first), omega (arith, same, count, second))
