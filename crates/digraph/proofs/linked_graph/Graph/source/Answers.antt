use Rattle.std.proofs.Common.{◌∙◌, sym, arith}
use Rattle.digraph.proofs.Viewed.{viewed-count, viewed-source}
use Rattle.digraph.proofs.linked_graph.Graph.source.Goals as goal

pub key-requires : goal.key-requires
key-requires c =
    let count = viewed-count c.self.inside.sources c.self.inside.targets c.self.invariant.paired c.args.self.now c.self.view_is in
    omega (arith, count)

pub returns-clause-value : goal.returns-clause-value
returns-clause-value c =
    let count = viewed-count c.self.inside.sources c.self.inside.targets c.self.invariant.paired c.args.self.now c.self.view_is in
    c.key.ensures.value ∙ sym (viewed-source c.self.inside.sources c.self.inside.targets c.self.invariant.paired c.args.self.now c.self.view_is c.args.edge (omega (arith, count)))
