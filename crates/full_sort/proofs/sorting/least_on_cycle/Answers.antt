use Rattle.digraph.specs.Digraph.{HasEdge}
use Rattle.full_sort.proofs.LeastCycles.{least_from, none_from, edges_inside}
use Rattle.full_sort.proofs.sorting.least_on_cycle.Goals as goal

pub returns-clause-least : goal.returns-clause-least
returns-clause-least g c = least_from (HasEdge c.args.graph.now.edges) c.least_reaching_itself-least.result c.least_reaching_itself-least.ensures.some c.least_reaching_itself-least.ensures.least

pub returns-clause-none : goal.returns-clause-none
returns-clause-none g c =
    none_from (HasEdge c.args.graph.now.edges) c.args.graph.now.nodes c.least_reaching_itself-least.result
    (edges_inside c.args.graph.now.edges c.args.graph.now.nodes c.edges-edges.ensures.sound.ends) c.least_reaching_itself-least.ensures.none
