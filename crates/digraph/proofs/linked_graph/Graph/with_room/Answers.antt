use Rattle.digraph.proofs.WholeGraph.{graph-begin}
use Rattle.digraph.proofs.linked_graph.Graph.with_room.Goals as goal

pub invariant_of-result : goal.invariant_of-result
invariant_of-result c =
    rw (c.in_ok-vec.ensures.items_if_clones_equal, c.in_ok-vec-2.ensures.items_if_clones_equal, c.in_ok-vec-3.ensures.items_if_clones_equal)
    (graph-begin c.args.nodes c.args.edges c.in_ok-with_room.field-0 c.in_ok-with_room-2.field-0 c.in_ok-with_room.ensures.empty c.in_ok-with_room-2.ensures.empty c.in_ok-with_room.ensures.sound c.in_ok-with_room-2.ensures.sound)
