-- Each node of the window is passed over, or its mark is taken away and its edges are taken back.
use Rattle.std.proofs.Common.{ℕ, ◌<◌, List, length, get_or, arith}
use Rattle.std.proofs.lemmas.List.Elements.{All-get_or}
use Rattle.digraph.specs.Digraph.{out_degree}
use Rattle.full_sort.proofs.Cleaning.{skip-waiting, skip-sum, clean-waiting, clean-sum}
use Rattle.full_sort.proofs.window.clean_up.Goals as goal
use Rattle.full_sort.proofs.window.clean_up.Goals.{then-marks-node, else-marks-node}

pub loop-node-preserved : goal.loop-node-preserved
loop-node-preserved g c =
    let es : List (ℕ × ℕ) = c.args.graph.now.edges in
    let xs : List ℕ = c.args.window.now in
    let i : ℕ = c.loop-node.node-index in
    let lt : i < length xs = omega arith in
    let node = All-get_or (λ (n : ℕ). n < c.args.graph.now.nodes) xs i 0 lt c.requires.window in
    elim c.if-marks-node.branch [
      | then-marks-node w ↦
          let inside : get_or xs i 0 < length c.loop-node.marks = omega (arith, node) in
          record {
            waits = rw (w.waiting-is, w.marks-is) (clean-waiting es c.args.graph.now.nodes xs i c.loop-node.waiting c.loop-node.marks lt c.loop-node.invariant.waits w.if-marks-node.true c.requires.once inside w.lower.new.waiting w.lower.ensures.less);
            ticked =
                let so_far = c.loop-node.invariant.ticked in
                let more = clean-sum es c.args.graph.now.nodes xs i c.loop-node.waiting c.loop-node.marks lt c.loop-node.invariant.waits w.if-marks-node.true c.requires.once inside (out_degree es) in
                let step = w.lower.ensures.ticks in
                rw (w.marks-is, w.steps-is) (omega (arith, so_far, more, step));
          }
      | else-marks-node w ↦
          record {
            waits = rw (w.waiting-is, w.marks-is) (skip-waiting es c.args.graph.now.nodes xs i c.loop-node.waiting c.loop-node.marks lt c.loop-node.invariant.waits w.if-marks-node.false);
            ticked =
                let so_far = c.loop-node.invariant.ticked in
                let same = skip-sum es c.args.graph.now.nodes xs i c.loop-node.waiting c.loop-node.marks lt c.loop-node.invariant.waits w.if-marks-node.false (out_degree es) in
                rw (w.marks-is, w.steps-is) (omega (arith, so_far, same));
          }
    ]
