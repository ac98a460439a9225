use Rattle.std.proofs.Common.{◌∙◌, sym}
use Rattle.digraph.proofs.Viewed.{viewed-count, viewed-sound}
use Rattle.digraph.proofs.linked_graph.Graph.edges.Goals as goal

pub returns-clause-count : goal.returns-clause-count
returns-clause-count c = c.len.ensures.count ∙ sym (viewed-count c.self.inside.sources c.self.inside.targets c.self.invariant.paired c.args.self.now c.self.view_is)

pub returns-clause-sound : goal.returns-clause-sound
returns-clause-sound c = viewed-sound c.self.inside.sources c.self.inside.targets c.self.invariant.paired c.args.self.now c.self.view_is
