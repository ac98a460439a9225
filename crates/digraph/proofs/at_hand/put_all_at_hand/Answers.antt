-- An edge more is counted.
use Rattle.std.proofs.Common.{◌∙◌, ◌<◌, ℕ, ◌∷◌, [], ◌++◌, List, length, get_or, take, ap, sym, subst, arith, append_assoc}
use Rattle.std.proofs.lemmas.List.{length-set, take_all, take_more}
use Rattle.digraph.specs.AtHand.{TellAtHand}
use Rattle.digraph.proofs.AtHand.{at_hand-push, raised}
use Rattle.digraph.proofs.at_hand.put_all_at_hand.Goals as goal

pub loop-edge-preserved : goal.loop-edge-preserved
loop-edge-preserved c =
    let i : ℕ = c.loop-edge.edge-index in
    let es : List (ℕ × ℕ) = c.args.edges.now in
    let n : ℕ = length c.args.out_degrees.now in
    let edge : ℕ × ℕ = get_or es i (0, 0) in
    let lt = c.loop-edge-test.true in
    let inside = c.requires.ends i (0, 0) lt in
    let h = c.loop-edge.invariant in
    let outs = h.outs in
    let ins = h.ins in
    let nodes = c.requires.nodes in
    let from : edge.0 < length c.loop-edge.out_degrees = (let one = inside.0 in omega (arith, one, outs)) in
    let to : edge.1 < length c.loop-edge.in_degrees = (let one = inside.1 in omega (arith, one, ins, nodes)) in
    record {
      at_hand = λ before told.
          subst (λ (list : List (ℕ × ℕ)). TellAtHand n list c.put_at_hand.new.near c.put_at_hand.new.out_degrees c.put_at_hand.new.in_degrees)
          (append_assoc before (take i es) (edge ∷ []) ∙ ap (λ (list : List (ℕ × ℕ)). before ++ list) (sym (take_more es i (0, 0) lt)))
          (rw (c.put_at_hand.ensures.near, c.put_at_hand.ensures.out_degrees, c.put_at_hand.ensures.in_degrees)
          (at_hand-push n (before ++ take i es) c.loop-edge.near c.loop-edge.out_degrees c.loop-edge.in_degrees (h.at_hand before told) edge.0 edge.1 inside.0 inside.1));
      near = ap length c.put_at_hand.ensures.near ∙ length-set c.loop-edge.near _ edge.1 ∙ h.near;
      outs = ap length c.put_at_hand.ensures.out_degrees ∙ length-set c.loop-edge.out_degrees edge.0 _ ∙ h.outs;
      ins = ap length c.put_at_hand.ensures.in_degrees ∙ length-set c.loop-edge.in_degrees edge.1 _ ∙ h.ins;
      few_out = λ node below.
          let few = h.few_out node below in
          let more = raised c.loop-edge.out_degrees edge.0 from node in
          rw c.put_at_hand.ensures.out_degrees (omega (arith, few, more));
      few_in = λ node below.
          let few = h.few_in node below in
          let more = raised c.loop-edge.in_degrees edge.1 to node in
          rw c.put_at_hand.ensures.in_degrees (omega (arith, few, more));
    }

pub returns : goal.returns
returns c = λ before told.
    subst (λ (list : List (ℕ × ℕ)). TellAtHand (length c.args.out_degrees.now) (before ++ list) c.loop-edge.near c.loop-edge.out_degrees c.loop-edge.in_degrees)
    (take_all c.loop-edge.edge-index c.args.edges.now c.loop-edge-test.false) (c.loop-edge.invariant.at_hand before told)
