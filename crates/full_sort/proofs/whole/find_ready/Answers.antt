-- Each node is looked at once.
use Rattle.std.proofs.Common.{◌∙◌}
use Rattle.full_sort.proofs.Gained.{ready-here, ready-not}
use Rattle.full_sort.proofs.whole.find_ready.Goals as goal
use Rattle.full_sort.proofs.whole.find_ready.Goals.{then-counts-node-eq0, else-counts-node-eq0}

pub loop-node-preserved : goal.loop-node-preserved
loop-node-preserved c = elim c.if-counts-node-eq0.branch [
  | then-counts-node-eq0 w ↦ record {
    found = rw w.ready-is (ready-here c.loop-node.ready w.insert.new.self c.args.counts.now c.loop-node.node c.loop-node.invariant.found w.insert.ensures w.if-counts-node-eq0.true);
    room = rw w.ready-is (w.insert.ensures.room ∙ c.loop-node.invariant.room);
  }
  | else-counts-node-eq0 w ↦ record {
    found = rw w.ready-is (ready-not c.loop-node.ready c.args.counts.now c.loop-node.node c.loop-node.invariant.found w.if-counts-node-eq0.false);
    room = rw w.ready-is c.loop-node.invariant.room;
  }
]
