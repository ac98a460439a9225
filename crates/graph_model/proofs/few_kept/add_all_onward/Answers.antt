use Rattle.std.proofs.Common.{◌≡◌, ◌∙◌, ℕ, suc, ◌-◌, arith, sym, subst}
use Rattle.test_lang.specs.Program.{op_count}
use Rattle.graph_model.specs.NearestNodes.{Tells, first_passing}
use Rattle.graph_model.proofs.Passes.{onward_more, onward_room, tells_first}
use Rattle.graph_model.proofs.few_kept.add_all_onward.Goals as goal

pub add_onward-requires-clause-room : goal.add_onward-requires-clause-room
add_onward-requires-clause-room c =
    let p = c.args.test.now in
    onward_room c.args.model p (op_count p - c.loop-node.node) c.args.graph.now c.loop-node.graph c.loop-node.invariant.added c.requires.room (omega (arith, c.loop-node-test.true, c.loop-node.invariant.within))

pub loop-node-preserved : goal.loop-node-preserved
loop-node-preserved c =
    let p = c.args.test.now in
    let end = c.loop-node.node in
    record {
      within = omega arith;
      added = onward_more c.args.model p end c.args.graph.now c.loop-node.graph c.add_onward.new.graph (omega arith) c.loop-node.invariant.within c.loop-node.invariant.added c.add_onward.ensures;
      told = tells_first p end c.action-action.result c.meet.new.self (omega arith) c.loop-node.invariant.within c.action-action.ensures.found (c.meet.ensures.told (first_passing p (op_count p - end)) c.loop-node.invariant.told);
      words = c.meet.ensures.room ∙ c.loop-node.invariant.words;
    }

pub add_onward-requires-clause-told : goal.add_onward-requires-clause-told
add_onward-requires-clause-told c =
    let p = c.args.test.now in
    let end = c.loop-node.node in
    let same : op_count p - suc (end - 1) ≡ op_count p - end = omega (arith, c.loop-node-test.true) in
    subst (λ (k : ℕ). Tells (first_passing p k) c.loop-node.nearest) (sym same) c.loop-node.invariant.told
