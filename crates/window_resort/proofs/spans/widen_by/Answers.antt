-- The window is widened by one edge after another.
use Rattle.std.proofs.Common.{◌≡◌, ℕ, ◌+◌, List, [], ◌∷◌, ◌++◌, ◌∙◌, ap, sym, subst, get_or, take, append-nil, append_assoc}
use Rattle.std.specs.Prelude.{Option, Some}
use Rattle.std.proofs.lemmas.List.{take_all, take_more}
use Rattle.window_resort.specs.declared.spans.Window.{Window}
use Rattle.window_resort.specs.Changes.{LeadsBack}
use Rattle.window_resort.specs.Windows.{IsSpan}
use Rattle.window_resort.proofs.Widening.{span_kept, span_widened}
use Rattle.window_resort.proofs.spans.widen_by.Goals as goal
use Rattle.window_resort.proofs.spans.widen_by.Goals.{then-target-source, else-target-source}

pub loop-edge-init : goal.loop-edge-init
loop-edge-init c = λ before span. subst (λ (list : List (ℕ × ℕ)). IsSpan (LeadsBack c.args.places.now list) c.args.window) (sym (append-nil before)) span

pub loop-edge-preserved : goal.loop-edge-preserved
loop-edge-preserved c =
    let i : ℕ = c.loop-edge.edge-index in
    let es : List (ℕ × ℕ) = c.args.edges.now in
    let places : List ℕ = c.args.places.now in
    let edge : ℕ × ℕ = get_or es i (0, 0) in
    λ before span.
    let so_far = c.loop-edge.invariant before span in
    let more : (before ++ take i es) ++ edge ∷ [] ≡ before ++ take (i + 1) es =
    append_assoc before (take i es) (edge ∷ []) ∙ ap (λ (list : List (ℕ × ℕ)). before ++ list) (sym (take_more es i (0, 0) c.loop-edge-test.true)) in
    subst (λ (list : List (ℕ × ℕ)). IsSpan (LeadsBack places list) c.if-target-source.widest) more
    (elim c.if-target-source.branch [
      | then-target-source w ↦
          subst (λ (found : Option Window). IsSpan (LeadsBack places ((before ++ take i es) ++ edge ∷ [])) found) (sym (w.widest-is ∙ ap Some w.widen.ensures))
          (span_widened places (before ++ take i es) edge.0 edge.1 w.if-target-source.true c.loop-edge.widest so_far)
      | else-target-source w ↦
          subst (λ (found : Option Window). IsSpan (LeadsBack places ((before ++ take i es) ++ edge ∷ [])) found) (sym w.widest-is)
          (span_kept places (before ++ take i es) edge.0 edge.1 w.if-target-source.false c.loop-edge.widest so_far)
    ])

pub returns : goal.returns
returns c = λ before span.
    subst (λ (list : List (ℕ × ℕ)). IsSpan (LeadsBack c.args.places.now (before ++ list)) c.loop-edge.widest) (take_all c.loop-edge.edge-index c.args.edges.now c.loop-edge-test.false)
    (c.loop-edge.invariant before span)
