-- The nodes of an order are below their number.
use Rattle.std.proofs.Common.{◌<◌, ◌∙◌, ℕ, All, sym, subst}
use Rattle.digraph.specs.Digraph.{HasEdge}
use Rattle.window_resort.proofs.NextRuns.{nodes_in}
use Rattle.window_resort.proofs.orders_kept.sort_nodes.Goals as goal

pub note_places-requires-clause-below : goal.note_places-requires-clause-below
note_places-requires-clause-below g c =
    let order = c.least_order_into-found.new.order in
    subst (λ (n : ℕ). All (λ node. node < n) order) (sym (c.least_order_into-found.auto.order ∙ c.requires.order))
    (nodes_in c.args.graph.now.nodes (HasEdge c.args.graph.now.edges) order c.if-found.ensures.found.is_order)
