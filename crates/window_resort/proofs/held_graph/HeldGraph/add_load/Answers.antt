-- The edges of one load more are added, and where they begin is known.
use Rattle.std.proofs.Common.{ℕ, ◌∙◌, arith, ap, set}
use Rattle.window_resort.proofs.Holding.{holds_more, more_fits}
use Rattle.window_resort.proofs.Loads.{rank_ends}
use Rattle.window_resort.proofs.held_graph.HeldGraph.add_load.Goals as goal

pub add_all-requires-clause-ends : goal.add_all-requires-clause-ends
add_all-requires-clause-ends c =
    rank_ends c.args.fixed.now.test c.args.run.now c.args.self.now.loads c.args.self.now.graph.nodes c.args.edges.now c.requires.more
    (c.requires.holds.nodes ∙ c.requires.sound.nodes) c.requires.edges

pub add_all-requires-clause-room : goal.add_all-requires-clause-room
add_all-requires-clause-room c =
    more_fits c.args.fixed.now c.args.run.now c.args.self.now.loads c.args.self.now.starts.items c.args.self.now.graph c.requires.holds c.requires.more c.args.edges.now c.requires.edges

pub returns-clause-holds : goal.returns-clause-holds
returns-clause-holds c =
    let starts = c.args.self.now.starts.items in
    let loads = c.args.self.now.loads in
    let more = c.requires.more in
    let long = c.requires.room.starts_long in
    holds_more c.args.fixed.now c.args.run.now loads starts c.args.self.now.graph c.requires.holds more c.args.edges.now c.requires.edges (omega (arith, more, long))
    (set starts loads c.edges.result) (ap (λ (n : ℕ). set starts loads n) c.edges.ensures.count) c.add_all.new.self c.add_all.ensures
