-- A run without an order has a graph without one.
use Rattle.std.proofs.Common.{ℕ, List, ap, sym, subst}
use Rattle.orders.specs.Orders.{HasNoOrder, nodes_below}
use Rattle.test_lang.specs.Edges.{HasNoRunOrder}
use Rattle.test_lang.specs.Program.{Program}
use Rattle.test_lang.specs.Runs.{IsInside}
use Rattle.digraph.specs.Digraph.{HasEdge}
use Rattle.graph_model.specs.StaticGraph.{StaticGraph}
use Rattle.graph_model.proofs.RunOrders.{none_iff}
use Rattle.window_resort.specs.Tables.{Checking}
use Rattle.window_resort.proofs.checking.Checker.cycle_counted.Goals as goal

pub find_cycle-requires-clause-no_order : goal.find_cycle-requires-clause-no_order
find_cycle-requires-clause-no_order g c =
    let s = c.self.inside.fixed.now in
    let run = c.args.run.now in
    let inside = subst (λ (p : Program). IsInside p run) (sym (ap (λ (x : Checking). x.fixed.test) c.self.view_is)) c.requires.inside in
    let none = subst (λ (x : StaticGraph). HasNoRunOrder x.model x.test run) (sym (ap (λ (x : Checking). x.fixed) c.self.view_is)) c.requires.none in
    let graph = c.hold_run.new.held.graph in
    subst (λ (n : ℕ). HasNoOrder (HasEdge graph.edges) (nodes_below n)) (sym c.hold_run.ensures.holds.nodes)
    (subst (λ (edges : List (ℕ × ℕ)). HasNoOrder (HasEdge edges) (nodes_below s.graph.nodes)) (sym c.hold_run.ensures.edges) ((none_iff s run c.self.invariant.0.sound inside).0 none))
