use Rattle.digraph.proofs.Viewed.{viewed-sound}
use Rattle.digraph.proofs.linked_graph.Graph.nodes.Goals as goal

pub returns-clause-sound : goal.returns-clause-sound
returns-clause-sound c = viewed-sound c.self.inside.sources c.self.inside.targets c.self.invariant.paired c.args.self.now c.self.view_is
