use Rattle.std.proofs.Common.{arith}
use Rattle.digraph.proofs.Viewed.{viewed-count, viewed-source, viewed-last_out}
use Rattle.digraph.proofs.linked_graph.Graph.next_out.Goals as goal

pub previous-requires : goal.previous-requires
previous-requires g c =
    let count = viewed-count c.self.inside.sources c.self.inside.targets c.self.invariant.paired c.args.self.now c.self.view_is in
    omega (arith, count)

pub returns-clause-last : goal.returns-clause-last
returns-clause-last g c =
    let count = viewed-count c.self.inside.sources c.self.inside.targets c.self.invariant.paired c.args.self.now c.self.view_is in
    rw (viewed-source c.self.inside.sources c.self.inside.targets c.self.invariant.paired c.args.self.now c.self.view_is c.args.edge (omega (arith, count)))
    (viewed-last_out c.self.inside.sources c.self.inside.targets c.self.invariant.paired c.args.self.now c.self.view_is _ c.args.edge c.previous.result c.counted.result c.counted.ensures.same (omega (arith, count)) c.previous.ensures)
