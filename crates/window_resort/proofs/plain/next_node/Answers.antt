use Rattle.std.proofs.Common.{ℕ, ◌+◌, ap, get_or, sym, subst, ◌∙◌}
use Rattle.std.specs.Prelude.{Some}
use Rattle.test_lang.specs.Edges.{Edge}
use Rattle.window_resort.proofs.NextOfAll.{IsCandidate, LeastSoFar, next_found, none_found, so_far_first, so_far_kept, so_far_more}
use Rattle.window_resort.proofs.plain.next_node.Goals as goal
use Rattle.window_resort.proofs.plain.next_node.Goals.{then-is_ready+in-Some, then-is_ready+in-None, else-is_ready}

pub loop-node-preserved : goal.loop-node-preserved
loop-node-preserved c =
    let E : ℕ → ℕ → Type 0 = Edge c.args.graph.now.model c.args.graph.now.test.now c.args.graph.now.run.now in
    let nodes = c.args.nodes.now in
    let placed = c.args.placed.now in
    let i : ℕ = c.loop-node.node-index in
    let below = c.loop-node-test.true in
    let old = c.loop-node.invariant in
    elim c.if-is_ready.branch [
      | then-is_ready+in-Some w ↦
          let may : IsCandidate E nodes placed (get_or nodes i 0) = record { unplaced = w.if-is_ready.ensures.yes.0; ready = w.if-is_ready.ensures.yes.1 } in
          subst (LeastSoFar E nodes placed (i + 1)) (sym (w.next-is ∙ ap Some w.min.ensures))
          (so_far_more E nodes placed i below w.in-Some.least may (subst (LeastSoFar E nodes placed i) w.in-Some.is old))
      | then-is_ready+in-None w ↦
          let may : IsCandidate E nodes placed (get_or nodes i 0) = record { unplaced = w.if-is_ready.ensures.yes.0; ready = w.if-is_ready.ensures.yes.1 } in
          subst (LeastSoFar E nodes placed (i + 1)) (sym w.next-is) (so_far_first E nodes placed i below may (subst (LeastSoFar E nodes placed i) w.in-None.is old))
      | else-is_ready w ↦
          subst (LeastSoFar E nodes placed (i + 1)) (sym w.next-is) (so_far_kept E nodes placed i below c.loop-node.next (λ may. w.if-is_ready.ensures.no may.unplaced may.ready) old)
    ]

pub returns-clause-next : goal.returns-clause-next
returns-clause-next c =
    next_found (Edge c.args.graph.now.model c.args.graph.now.test.now c.args.graph.now.run.now) c.args.nodes.now c.args.placed.now c.loop-node.node-index c.loop-node-test.false c.loop-node.next c.loop-node.invariant

pub returns-clause-none : goal.returns-clause-none
returns-clause-none c =
    none_found (Edge c.args.graph.now.model c.args.graph.now.test.now c.args.graph.now.run.now) c.args.nodes.now c.args.placed.now c.loop-node.node-index c.loop-node-test.false c.loop-node.next c.loop-node.invariant
