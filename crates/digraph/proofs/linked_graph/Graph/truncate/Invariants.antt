use Rattle.std.proofs.Common.{◌≡◌, ◌≤◌, length, take}
use Rattle.digraph.proofs.linked_graph.Graph.truncate.Given as goal

abbrev pub invariant-loop-self : goal.invariant-loop-self
invariant-loop-self l = record {
  some : l.edges ≤ length l.self.edges;
  first : l.self ≡ record l.fn.self { edges = take (length l.self.edges) l.fn.self.edges };
}

abbrev pub decreases-loop-self : goal.decreases-loop-self
decreases-loop-self l = length l.self.edges
