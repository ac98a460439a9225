-- The edges of the first loads are left, or those of no load.
use Rattle.std.proofs.Common.{◌≡◌, ℕ, ◌∙◌, arith, ap, refl, subst, sym, get_or, length, take}
use Rattle.std.proofs.lemmas.List.{get_or_read}
use Rattle.digraph.specs.Digraph.{Digraph}
use Rattle.window_resort.proofs.Holding.{holds_fewer, holds_none, start_fits, static_front}
use Rattle.window_resort.proofs.held_graph.HeldGraph.cut_to.Goals as goal

pub overflow_sub-edges : goal.overflow_sub-edges
overflow_sub-edges c =
    let self = c.args.self.now in
    let h = c.requires.holds in
    let lt = c.requires.fewer in
    let few = h.few in
    let long = c.requires.room.starts_long in
    let at : c.index-start.result.now ≡ get_or self.starts.items c.args.loads 0 = get_or_read self.starts.items _ _ (omega (arith, lt, few, long)) c.index-start.ensures 0 in
    let fits = start_fits c.args.fixed.now self.run.items self.loads self.starts.items self.graph h c.args.loads lt in
    let count = c.edges.ensures.count in
    omega (arith, at, fits, count)

pub truncate_to-requires-clause-nodes : goal.truncate_to-requires-clause-nodes
truncate_to-requires-clause-nodes c = ap (λ (g : Digraph). g.nodes) c.graph.ensures.graph ∙ sym c.requires.holds.nodes

pub truncate_to-requires-clause-begins : goal.truncate_to-requires-clause-begins
truncate_to-requires-clause-begins c =
    let self = c.args.self.now in
    subst (λ (g : Digraph). take (length g.edges) self.graph.edges ≡ g.edges) (sym c.graph.ensures.graph)
    (static_front c.args.fixed.now self.run.items self.loads self.starts.items self.graph c.requires.holds)

pub returns-then-edges-start-clause-holds : goal.returns-then-edges-start-clause-holds
returns-then-edges-start-clause-holds c =
    let self = c.args.self.now in
    holds_none c.args.fixed.now self.run.items self.loads self.starts.items self.graph c.requires.holds c.truncate_to.new.self
    (c.truncate_to.ensures ∙ ap (λ (g : Digraph). record self.graph { edges = g.edges }) c.graph.ensures.graph)

pub truncate-requires : goal.truncate-requires
truncate-requires c =
    let self = c.args.self.now in
    let h = c.requires.holds in
    let lt = c.requires.fewer in
    let few = h.few in
    let long = c.requires.room.starts_long in
    let at : c.index-start.result.now ≡ get_or self.starts.items c.args.loads 0 = get_or_read self.starts.items _ _ (omega (arith, lt, few, long)) c.index-start.ensures 0 in
    let fits = start_fits c.args.fixed.now self.run.items self.loads self.starts.items self.graph h c.args.loads lt in
    omega (arith, at, fits)

pub returns-else-edges-start-clause-holds : goal.returns-else-edges-start-clause-holds
returns-else-edges-start-clause-holds c =
    let self = c.args.self.now in
    let h = c.requires.holds in
    let lt = c.requires.fewer in
    let few = h.few in
    let long = c.requires.room.starts_long in
    let at : c.index-start.result.now ≡ get_or self.starts.items c.args.loads 0 = get_or_read self.starts.items _ _ (omega (arith, lt, few, long)) c.index-start.ensures 0 in
    holds_fewer c.args.fixed.now self.run.items self.loads self.starts.items self.graph h self.run.items c.args.loads (λ rank below. refl) lt c.truncate.new.self
    (c.truncate.ensures ∙ ap (λ (n : ℕ). record self.graph { edges = take n self.graph.edges }) at)
