use Rattle.std.proofs.Common.{ℕ, ◌+◌, ◌<◌, List, IsTrue, arith, sym, subst}
use Rattle.std.proofs.lemmas.Bool.Decides.{nat_tests}
use Rattle.digraph.specs.Marks.{MarksWhere}
use Rattle.test_lang.specs.Kept.{is_kept}
use Rattle.digraph.proofs.Marks.{marks_idle}
use Rattle.graph_model.proofs.RunSources.{kept_from, node_marked, node_passed}
use Rattle.graph_model.proofs.run_sources.mark_kept.Goals as goal
use Rattle.graph_model.proofs.run_sources.mark_kept.Goals.{then-marks-node-eq0+then-kept, else-marks-node-eq0, else-marks-node-eq0-via-then-marks-node-eq0+else-kept, else-marks-node-eq0-via-else-marks-node-eq0}

pub loop-node-init : goal.loop-node-init
loop-node-init c =
    let p = c.args.test.now in
    let first = c.first_of-node.result in
    marks_idle (λ a. (a < first) × IsTrue (is_kept c.args.model p a c.args.to)) c.args.mark c.args.marks.now (λ a zero h.
    let lt = h.0 in
    let from = (kept_from c.args.model p a c.args.to c.thread_of.result c.thread_of.ensures.found h.1).0 in
    omega (arith, lt, from, c.first_of-node.ensures.first))

pub loop-node-preserved : goal.loop-node-preserved
loop-node-preserved c =
    let K : ℕ → Type 0 = λ a. IsTrue (is_kept c.args.model c.args.test.now a c.args.to) in
    let n = c.loop-node.node in
    let Goal : List ℕ → Type 0 = λ marks. MarksWhere (λ a. (a < n + 1) × K a) c.args.mark c.args.marks.now marks in
    elim c.if-marks-node-eq0.branch [
      | then-marks-node-eq0+then-kept w ↦
          subst Goal (sym w.marks-is) (node_marked K c.args.mark c.args.marks.now c.loop-node.marks n (omega (arith, c.loop-node-test.true, c.requires.to, c.requires.marks))
          (grind (arith, nat_tests, w.if-marks-node-eq0.true)) (grind (arith, w.kept.ensures, w.if-kept.true)) c.loop-node.invariant)
      | else-marks-node-eq0 w ↦
          subst Goal (sym w.marks-is) (node_passed K c.args.mark c.args.marks.now c.loop-node.marks n (λ zero kept. elim w.else-marks-node-eq0.branch [
            | else-marks-node-eq0-via-then-marks-node-eq0+else-kept v ↦ grind (arith, v.kept.ensures, v.if-kept.false, kept)
            | else-marks-node-eq0-via-else-marks-node-eq0 v ↦ grind (arith, nat_tests, v.if-marks-node-eq0.false, zero)
          ]) c.loop-node.invariant)
    ]
