use Rattle.std.proofs.Common.{ℕ, List, subst}
use Rattle.std.specs.Bool.{OnFalse}
use Rattle.orders.specs.Orders.{HasNoOrder}
use Rattle.digraph.specs.Digraph.{HasEdge}
use Rattle.window_resort.specs.Windows.{window_nodes}
use Rattle.window_resort.proofs.orders_kept.SortedRun.sort_window.Goals as goal

pub returns-clause-none : goal.returns-clause-none
returns-clause-none g c =
    subst (λ (order : List ℕ). OnFalse c.sort_some.result (HasNoOrder (HasEdge c.args.graph.now.edges) (window_nodes order c.args.window))) c.deref_mut.ensures.value c.sort_some.ensures.none
