use Rattle.std.proofs.Common.{◌∙◌, ◌+◌, ◌-◌, ◌<◌, Bool, List, sym, subst, arith, length, get_or, set}
use Rattle.std.proofs.lemmas.List.{get_or_default}
use Rattle.std.proofs.lemmas.List.Elements.{All-get_or}
use Rattle.weak_machine.proofs.Missing.{IsReleased, not-ready, released-ready, released-waiting, some-missing}
use Rattle.weak_machine.proofs.progress.release.Goals as goal
use Rattle.weak_machine.proofs.progress.release.Goals.{then-count-eq0, else-count-eq0}

pub overflow_sub-count : goal.overflow_sub-count
overflow_sub-count c =
    let nodes = c.args.nodes.now in
    let i = c.loop-node.node-index in
    let lt : c.loop-node.node-index < length c.args.nodes.now = omega arith in
    some-missing c.args.missing.now c.args.ready.now nodes c.requires.enough c.requires.apart c.requires.same i (get_or nodes i 0) c.loop-node.missing c.loop-node.ready c.loop-node.invariant lt
    (get_or_default nodes i 0 (get_or nodes i 0) lt) (All-get_or (λ n. n < length c.args.missing.now) nodes i 0 lt c.requires.inside)

pub insert-requires-clause-new : goal.insert-requires-clause-new
insert-requires-clause-new c =
    let nodes = c.args.nodes.now in
    let i = c.loop-node.node-index in
    let lt : c.loop-node.node-index < length c.args.nodes.now = omega arith in
    not-ready c.args.missing.now c.args.ready.now nodes c.requires.enough c.requires.apart c.requires.same i (get_or nodes i 0) c.loop-node.missing c.loop-node.ready c.loop-node.invariant lt
    (get_or_default nodes i 0 (get_or nodes i 0) lt) (All-get_or (λ n. n < length c.args.missing.now) nodes i 0 lt c.requires.inside)

pub loop-node-preserved : goal.loop-node-preserved
loop-node-preserved c =
    let nodes = c.args.nodes.now in
    let i = c.loop-node.node-index in
    let n = get_or c.args.nodes.now c.loop-node.node-index 0 in
    let lt : c.loop-node.node-index < length c.args.nodes.now = omega arith in
    let lowered = set c.loop-node.missing n (get_or c.loop-node.missing n 0 - 1) in
    let same = get_or_default nodes i 0 (get_or nodes i 0) lt in
    let inside = All-get_or (λ k. k < length c.args.missing.now) nodes i 0 lt c.requires.inside in
    elim c.if-count-eq0.branch [
      | then-count-eq0 w ↦
          subst (λ (ready : List Bool). IsReleased c.args.missing.now c.args.ready.now nodes (i + 1) lowered ready) (sym (w.ready-is ∙ w.insert.ensures))
          (released-ready c.args.missing.now c.args.ready.now nodes c.requires.enough c.requires.apart c.requires.same i n c.loop-node.missing c.loop-node.ready c.loop-node.invariant lt same inside w.if-count-eq0.true)
      | else-count-eq0 w ↦
          subst (λ (ready : List Bool). IsReleased c.args.missing.now c.args.ready.now nodes (i + 1) lowered ready) (sym w.ready-is)
          (released-waiting c.args.missing.now c.args.ready.now nodes c.requires.enough c.requires.apart c.requires.same i n c.loop-node.missing c.loop-node.ready c.loop-node.invariant lt same inside
          (λ e. let other = w.if-count-eq0.false in omega (arith, e, other)))
    ]
