-- The edges that the graph begins with are those of the other, and so are their ends.
use Rattle.digraph.proofs.Viewed.{viewed-begins}
use Rattle.digraph.proofs.linked_graph.Graph.truncate_to.Goals as goal

pub truncate_to-requires-clause-begins : goal.truncate_to-requires-clause-begins
truncate_to-requires-clause-begins c =
    (viewed-begins c.self.inside.sources c.self.inside.targets c.self.invariant.paired c.args.self.now c.self.view_is
    c.start.inside.sources c.start.inside.targets c.start.invariant.paired c.args.start.now c.start.view_is c.requires.begins).0

pub truncate_to-requires-2-clause-begins : goal.truncate_to-requires-2-clause-begins
truncate_to-requires-2-clause-begins c =
    (viewed-begins c.self.inside.sources c.self.inside.targets c.self.invariant.paired c.args.self.now c.self.view_is
    c.start.inside.sources c.start.inside.targets c.start.invariant.paired c.args.start.now c.start.view_is c.requires.begins).1
