use Rattle.std.proofs.Common.{arith}
use Rattle.digraph.proofs.Viewed.{viewed-count_in, viewed-last_in}
use Rattle.digraph.proofs.linked_graph.Graph.first_in.Goals as goal

pub returns-clause-last : goal.returns-clause-last
returns-clause-last g c =
    rw (viewed-count_in c.self.inside.sources c.self.inside.targets c.self.invariant.paired c.args.self.now c.self.view_is)
    (viewed-last_in c.self.inside.sources c.self.inside.targets c.self.invariant.paired c.args.self.now c.self.view_is c.args.node _ c.last.result c.counted.result c.counted.ensures.same (omega (arith, c.self.invariant.paired.count)) c.last.ensures)
