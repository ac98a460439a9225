use Rattle.std.proofs.Common.{◌≡◌, ℕ, ◌+◌, arith, refl, sym, subst, ap, ◌∙◌}
use Rattle.std.specs.Prelude.{Some}
use Rattle.std.proofs.lemmas.Bool.{false≢true}
use Rattle.test_lang.specs.Edges.{Edge}
use Rattle.window_resort.specs.Windows.{IsSpan}
use Rattle.window_resort.proofs.Pairing.{Met, met_all, met_edge, met_no_edge, met_row}
use Rattle.window_resort.proofs.plain.window_of.Goals as goal
use Rattle.window_resort.proofs.plain.window_of.Goals.{then-edge, else-edge}

pub loop-target-preserved : goal.loop-target-preserved
loop-target-preserved c =
    let E : ℕ → ℕ → Type 0 = Edge c.args.graph.now.model c.args.graph.now.test.now c.args.graph.now.run.now in
    let order = c.args.order.now in
    let s : ℕ = c.loop-source.source in
    let t : ℕ = c.loop-target.target in
    let below = c.loop-source-test.true in
    let until = c.loop-source.auto.source-end in
    let before = c.loop-target-test.true in
    let end = c.loop-target.auto.target-end in
    elim c.if-edge.branch [
      | then-edge w ↦
          subst (IsSpan (Met E order s (t + 1))) (sym (w.window-is ∙ ap Some w.widen.ensures))
          (met_edge E order s t (omega (arith, before, end)) (omega (arith, below, until)) (w.if-edge.ensures.0 refl) c.loop-target.window c.loop-target.invariant)
      | else-edge w ↦
          subst (IsSpan (Met E order s (t + 1))) (sym w.window-is) (met_no_edge E order s t (λ e. false≢true (w.if-edge.ensures.1 e)) c.loop-target.window c.loop-target.invariant)
    ]

pub loop-source-preserved : goal.loop-source-preserved
loop-source-preserved c =
    let E : ℕ → ℕ → Type 0 = Edge c.args.graph.now.model c.args.graph.now.test.now c.args.graph.now.run.now in
    let order = c.args.order.now in
    let s : ℕ = c.loop-source.source in
    let past = c.loop-target-test.false in
    let end = c.loop-target.auto.target-end in
    let whole : c.loop-target.target ≡ s = omega (arith, past, end) in
    met_row E order s c.loop-target.window (subst (λ (t : ℕ). IsSpan (Met E order s t) c.loop-target.window) whole c.loop-target.invariant)

pub returns : goal.returns
returns c =
    met_all (Edge c.args.graph.now.model c.args.graph.now.test.now c.args.graph.now.run.now) c.args.order.now c.loop-source.source c.loop-source-test.false c.loop-source.window c.loop-source.invariant
