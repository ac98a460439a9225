use Rattle.std.proofs.Common.{◌≤◌, ◌<◌, ℕ, subst, ap, ◌∙◌, take}
use Rattle.test_lang.specs.Values.{load_count}
use Rattle.graph_model.specs.LoadEdges.{load_edge_room}
use Rattle.graph_model.specs.StaticGraph.{StaticGraph}
use Rattle.graph_model.proofs.RunGraphs.{loads_more, loads_all, few_more}
use Rattle.graph_model.proofs.static_graph.Static.put_loads.Goals as goal

pub loop-rank-preserved : goal.loop-rank-preserved
loop-rank-preserved c =
    let s = c.args.self.now in
    let each : ℕ = load_edge_room s.test in
    let before = c.loop-rank in
    let after = c.put_load-count in
    let count = c.loads-rank-end.ensures.count ∙ ap (λ (s : StaticGraph). load_count s.test) c.self.view_is in
    let below = subst (λ (n : ℕ). c.loop-rank.rank < n) count c.loop-rank-test.true in
    record {
      put = loads_more s.test c.args.run.now before.rank (take before.count before.out) (take after.result after.new.out) below before.invariant.put after.ensures.put;
      few = few_more before.rank each before.count after.result before.invariant.few after.ensures.few;
    }

pub returns-clause-put : goal.returns-clause-put
returns-clause-put c =
    let s = c.args.self.now in
    let count = c.loads-rank-end.ensures.count ∙ ap (λ (s : StaticGraph). load_count s.test) c.self.view_is in
    let done = subst (λ (n : ℕ). n ≤ c.loop-rank.rank) count c.loop-rank-test.false in
    loads_all s.test c.args.run.now c.loop-rank.rank (take c.loop-rank.count c.loop-rank.out) c.loop-rank.invariant.put done
