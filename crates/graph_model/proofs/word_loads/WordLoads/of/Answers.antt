use Rattle.std.proofs.Common.{◌∙◌, ◌≡◌, ℕ, arith, subst, length-set}
use Rattle.graph_model.specs.NearestNodes.{Tells, last_node}
use Rattle.graph_model.proofs.Passes.{tells_last}
use Rattle.graph_model.proofs.WordLoads.{loads_more, action_at-below}
use Rattle.graph_model.proofs.word_loads.WordLoads.of.Goals as goal

pub loop-node-preserved : goal.loop-node-preserved
loop-node-preserved c =
    let p = c.args.test.now in
    let n = c.loop-node.node in
    let i = c.loop-node.invariant in
    let room = i.room in
    record {
      words = c.meet.ensures.room ∙ i.words;
      told = tells_last p n c.action-action.result c.meet.new.self c.action-action.ensures.found (c.meet.ensures.told (last_node p n) i.told);
      room = length-set c.loop-node.before.items n c.of.result ∙ i.room;
      each = loads_more p n c.loop-node.before.items c.of.result c.action-action.result (omega (arith, room, c.loop-node-test.true, c.ops-node-end.ensures.count)) c.action-action.ensures.found (c.of.ensures (last_node p n) i.told) i.each;
    }

pub returns : goal.returns
returns c =
    let p = c.args.test.now in
    let all : c.loop-node.node ≡ c.ops-node-end.result = omega arith in
    let i = c.loop-node.invariant in
    let count = c.ops-node-end.ensures.count in
    record {
      words = i.words;
      last = subst (λ (n : ℕ). Tells (last_node p n) c.loop-node.last) (all ∙ count) i.told;
      room = i.room;
      before = λ n action e. let below = action_at-below p n action e in i.each n action (omega (arith, below, all, count)) e;
    }
