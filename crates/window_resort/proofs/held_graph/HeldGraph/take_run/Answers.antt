-- At the end the graph has the edges of all loads.
use Rattle.std.proofs.Common.{◌≤◌, ◌∙◌, arith}
use Rattle.test_lang.specs.Values.{load_count}
use Rattle.graph_model.proofs.RunVerdicts.{stands_for_run}
use Rattle.window_resort.proofs.Holding.{up_to_all}
use Rattle.window_resort.proofs.held_graph.HeldGraph.take_run.Goals as goal

pub returns-clause-edges : goal.returns-clause-edges
returns-clause-edges c =
    let h = c.loop-rank.invariant in
    let done = c.loop-rank-test.false in
    let all = c.loads-rank-end.ensures.count in
    let at = h.count in
    let whole : load_count c.args.fixed.now.test ≤ c.loop-rank.self.loads = omega (arith, done, all, at) in
    h.holds.edges ∙ up_to_all c.args.fixed.now c.args.run.now c.loop-rank.self.loads whole

pub returns-clause-verdicts : goal.returns-clause-verdicts
returns-clause-verdicts c =
    let h = c.loop-rank.invariant in
    let done = c.loop-rank-test.false in
    let all = c.loads-rank-end.ensures.count in
    let at = h.count in
    let whole : load_count c.args.fixed.now.test ≤ c.loop-rank.self.loads = omega (arith, done, all, at) in
    stands_for_run c.args.fixed.now c.args.run.now c.requires.sound c.requires.inside c.loop-rank.self.graph h.holds.nodes
    (h.holds.edges ∙ up_to_all c.args.fixed.now c.args.run.now c.loop-rank.self.loads whole)
