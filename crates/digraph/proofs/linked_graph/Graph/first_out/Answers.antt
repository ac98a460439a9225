use Rattle.std.proofs.Common.{arith}
use Rattle.digraph.proofs.Viewed.{viewed-count, viewed-last_out}
use Rattle.digraph.proofs.linked_graph.Graph.first_out.Goals as goal

pub returns-clause-last : goal.returns-clause-last
returns-clause-last g c =
    rw (viewed-count c.self.inside.sources c.self.inside.targets c.self.invariant.paired c.args.self.now c.self.view_is)
    (viewed-last_out c.self.inside.sources c.self.inside.targets c.self.invariant.paired c.args.self.now c.self.view_is c.args.node _ c.last.result c.counted.result c.counted.ensures.same (omega (arith, c.self.invariant.paired.count)) c.last.ensures)
