use Rattle.std.proofs.Common.{◌≡◌, ◌+◌, get_or, length, arith}
use Rattle.digraph.specs.Digraph.{HasEdge}
use Rattle.full_sort.proofs.ComponentTicks.{queue_more, sources_ticked}
use Rattle.full_sort.proofs.Numbering.{all_taken, next_listed, number_below, taking_on}
use Rattle.full_sort.proofs.components.number_sources.Goals as goal

pub take_sources-count-requires-clause-node : goal.take_sources-count-requires-clause-node
take_sources-count-requires-clause-node g c =
    let l = c.loop-done in
    let root = c.args.root in
    let has = next_listed (HasEdge c.args.graph.now.edges) root (root + 1) c.args.numbers.now (omega arith) c.requires.fresh l.numbers l.queue l.count l.done l.invariant.taking c.loop-done-test.true in
    let below = number_below l.numbers (root + 1) (get_or l.queue l.done 0) (omega arith) has in
    let size = l.auto.numbers in
    let nodes = c.requires.numbers in
    omega (arith, below, size, nodes)

pub loop-done-preserved : goal.loop-done-preserved
loop-done-preserved g c =
    let l = c.loop-done in
    let root = c.args.root in
    let n = c.take_sources-count.ensures in
    record {
      taking = taking_on (HasEdge c.args.graph.now.edges) root (root + 1) c.args.numbers.now (omega arith) c.requires.fresh l.numbers l.queue l.count l.done l.invariant.taking c.take_sources-count.new.numbers
          c.take_sources-count.new.queue c.take_sources-count.result c.loop-done-test.true n.listed n.few n.more n.front n.given n.taken;
      ticked = queue_more c.args.graph.now.edges l.queue c.take_sources-count.new.queue l.count l.done c.args.steps.now l.steps c.take_sources-count.new.steps c.loop-done-test.true l.invariant.taking.few n.front l.invariant.ticked n.ticks;
    }

pub returns-clause-bound : goal.returns-clause-bound
returns-clause-bound g c =
    let es = c.args.graph.now.edges in
    let l = c.loop-done in
    let end = c.loop-done-test.false in
    let kept = l.auto.numbers in
    let first = c.take_node-count.auto.numbers in
    let nodes = c.requires.numbers in
    let size : length l.numbers ≡ c.args.graph.now.nodes = omega (arith, kept, first, nodes) in
    let less = sources_ticked es (HasEdge es) c.args.root (c.args.root + 1) c.args.numbers.now (omega arith) c.requires.fresh l.numbers l.queue l.count l.done l.invariant.taking end c.args.graph.now.nodes size in
    let ticked = l.invariant.ticked in
    omega (arith, less, ticked)

pub returns-clause-later : goal.returns-clause-later
returns-clause-later g c = let ticked = c.loop-done.invariant.ticked in omega (arith, ticked)

pub returns-clause-numbered : goal.returns-clause-numbered
returns-clause-numbered g c =
    let l = c.loop-done in
    all_taken (HasEdge c.args.graph.now.edges) c.args.root (c.args.root + 1) c.args.numbers.now (omega arith) c.requires.fresh l.numbers l.queue l.count l.done l.invariant.taking c.loop-done-test.false
