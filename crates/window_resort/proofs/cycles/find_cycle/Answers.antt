use Rattle.std.proofs.Common.{ℕ, sym, subst}
use Rattle.std.specs.Prelude.{Option, Some, None, IfNone, IfSome, IsSome}
use Rattle.orders.specs.Cycles.{IsFirstShortestCycle, IsLeastOnCycle, IsOnCycle}
use Rattle.digraph.specs.Digraph.{HasEdge}
use Rattle.graph_model.specs.RunGraph.{RunGraph}
use Rattle.test_lang.specs.Edges.{Edge, IsCanonicalRunCycle}
use Rattle.window_resort.proofs.cycles.find_cycle.Goals as goal

-- where it isn't so that there is none, there is one
some_found : (found : Option ℕ) (E : ℕ → ℕ → Type 0) → IfNone found ((node : ℕ) → ¬ IsOnCycle E node) → (node : ℕ) × IsOnCycle E node → IsSome found
some_found None E none cycle = absurd (none cycle.0 cycle.1)
some_found (Some node) E none cycle = search

pub unwrap-start-requires : goal.unwrap-start-requires
unwrap-start-requires g c = some_found c.least_on_cycle.result (HasEdge c.args.graph.now.edges) c.least_on_cycle.ensures.none (c.requires.stands.cycle c.requires.no_order)

pub shortest_cycle_into-requires-clause-on_cycle : goal.shortest_cycle_into-requires-clause-on_cycle
shortest_cycle_into-requires-clause-on_cycle g c =
    let start : ℕ = c.unwrap-start.result in
    let least = subst (λ (found : Option ℕ). IfSome found (IsLeastOnCycle (HasEdge c.args.graph.now.edges))) c.unwrap-start.ensures c.least_on_cycle.ensures.least in
    subst (λ (f : RunGraph). IsOnCycle (λ a b. Edge f.model f.test f.run a b) start) (sym c.full.ensures) (c.requires.stands.start start least).on_cycle

pub returns-clause-canonical : goal.returns-clause-canonical
returns-clause-canonical g c =
    let start : ℕ = c.unwrap-start.result in
    let least = subst (λ (found : Option ℕ). IfSome found (IsLeastOnCycle (HasEdge c.args.graph.now.edges))) c.unwrap-start.ensures c.least_on_cycle.ensures.least in
    let more = c.shortest_cycle_into.ensures.first.0 in
    let first = subst (λ (f : RunGraph). IsFirstShortestCycle (λ a b. Edge f.model f.test f.run a b) start more) c.full.ensures c.shortest_cycle_into.ensures.first.2 in
    subst (IsCanonicalRunCycle c.args.fixed.now.model c.args.fixed.now.test c.args.run.now) (sym c.shortest_cycle_into.ensures.first.1) (c.requires.stands.canonical start more least first)
