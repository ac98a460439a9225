-- The walk begins with nothing behind it, and each turn takes one edge more.
use Rattle.std.proofs.Common.{arith}
use Rattle.full_sort.proofs.Walk.{begin-walk, begin-between, begin-from}
use Rattle.full_sort.proofs.WalkSteps.{turn-walk, turn-ticked, turn-raised, turn-room}
use Rattle.full_sort.proofs.waiting.raise_each.Goals as goal

pub loop-next-init : goal.loop-next-init
loop-next-init g c = record {
  walk = begin-walk c.args.graph.now.edges c.args.node c.first_out-next.result c.first_out-next.ensures.last;
  counted = λ t lt. let none = begin-between c.args.graph.now.edges c.args.node c.first_out-next.result c.first_out-next.ensures.last t in omega (arith, none);
  ticked =
      let none = begin-from c.args.graph.now.edges c.args.node c.first_out-next.result c.first_out-next.ensures.last in
      let first = c.first_out-next.ensures.ticks in
      omega (arith, none, first);
}

pub overflow_add-waiting : goal.overflow_add-waiting
overflow_add-waiting g c =
    let fits = turn-room c.args.graph.now.edges c.args.node c.in-Some.edge c.loop-next.next c.in-Some.is c.loop-next.invariant.walk
    c.loop-next.waiting c.args.waiting.now c.args.graph.now.nodes c.target-target.result c.target-target.ensures.value c.target-target.ensures.inside (omega arith)
    c.loop-next.invariant.counted c.requires.room
    in omega (arith, fits)

pub loop-next-preserved : goal.loop-next-preserved
loop-next-preserved g c = record {
  walk = turn-walk c.args.graph.now.edges c.args.node c.in-Some.edge c.loop-next.next c.in-Some.is c.loop-next.invariant.walk c.next_out-next.result c.next_out-next.ensures.last;
  counted =
      turn-raised c.args.graph.now.edges c.args.node c.in-Some.edge c.loop-next.next c.in-Some.is c.loop-next.invariant.walk
      c.loop-next.waiting c.args.waiting.now c.args.graph.now.nodes c.target-target.result c.target-target.ensures.value c.target-target.ensures.inside (omega arith)
      c.loop-next.invariant.counted c.next_out-next.result c.next_out-next.ensures.last;
  ticked = turn-ticked c.args.graph.now.edges c.args.node c.in-Some.edge c.loop-next.next c.in-Some.is c.loop-next.invariant.walk c.next_out-next.result c.next_out-next.ensures.last
      c.args.steps.now c.loop-next.steps c.next_out-next.new.steps c.loop-next.invariant.ticked c.next_out-next.ensures.ticks;
}
