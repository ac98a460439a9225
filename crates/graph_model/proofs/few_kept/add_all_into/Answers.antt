use Rattle.std.proofs.Common.{◌∙◌, arith}
use Rattle.graph_model.specs.NearestNodes.{last_node}
use Rattle.graph_model.proofs.Passes.{into_more, into_room, tells_last}
use Rattle.graph_model.proofs.few_kept.add_all_into.Goals as goal

pub add_into-requires-clause-room : goal.add_into-requires-clause-room
add_into-requires-clause-room c =
    into_room c.args.model c.args.test.now c.loop-node.node c.args.graph.now c.loop-node.graph c.loop-node.invariant.added c.requires.empty c.requires.room (omega (arith, c.loop-node-test.true, c.ops-node-end.ensures.count))

pub loop-node-preserved : goal.loop-node-preserved
loop-node-preserved c =
    let p = c.args.test.now in
    let n = c.loop-node.node in
    record {
      added = into_more c.args.model p n c.args.graph.now c.loop-node.graph c.add_into.new.graph c.loop-node.invariant.added c.add_into.ensures;
      told = tells_last p n c.action-action.result c.meet.new.self c.action-action.ensures.found (c.meet.ensures.told (last_node p n) c.loop-node.invariant.told);
      words = c.meet.ensures.room ∙ c.loop-node.invariant.words;
    }
