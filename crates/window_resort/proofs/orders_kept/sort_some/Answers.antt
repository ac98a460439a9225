-- The window's nodes are among those of the order, each once, also when they are sorted again.
use Rattle.std.proofs.Common.{◌<◌, ℕ, All, length, sym, subst}
use Rattle.digraph.specs.Digraph.{HasEdge}
use Rattle.window_resort.specs.Windows.{window_nodes}
use Rattle.window_resort.proofs.Bases.{window_below}
use Rattle.window_resort.proofs.InPlace.{length-order, once_with_window}
use Rattle.window_resort.proofs.NextRuns.{nodes_among}
use Rattle.window_resort.proofs.orders_kept.sort_some.Goals as goal

pub put_in_place-requires-clause-below : goal.put_in_place-requires-clause-below
put_in_place-requires-clause-below g c =
    let order = c.args.order.now in
    let w = c.args.window in
    let below = subst (λ (n : ℕ). All (λ node. node < n) order) (sym c.requires.order) c.requires.below in
    nodes_among (length order) (HasEdge c.args.graph.now.edges) (window_nodes order w) c.window_order_into.new.order (window_below (length order) order w c.requires.last c.requires.first below)
    c.if-not-window_order_into.ensures.found.is_order

pub put_in_place-requires-clause-once : goal.put_in_place-requires-clause-once
put_in_place-requires-clause-once g c =
    let order = c.args.order.now in
    let w = c.args.window in
    let o = c.if-not-window_order_into.ensures.found.is_order in
    let long = length-order (HasEdge c.args.graph.now.edges) order c.window_order_into.new.order w c.requires.last c.requires.first c.requires.once o in
    once_with_window order c.window_order_into.new.order w c.requires.last c.requires.first long o.same_nodes c.requires.once o.once
