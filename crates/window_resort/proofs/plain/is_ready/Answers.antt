use Rattle.std.proofs.Common.{◌≡◌, inl, inr, ℕ, get_or, arith, refl, subst}
use Rattle.std.proofs.lemmas.Bool.{cases_lt, false≢true}
use Rattle.test_lang.specs.Edges.{Edge}
use Rattle.window_resort.proofs.NextOfAll.{ready_by_all}
use Rattle.window_resort.proofs.Places.{node_at}
use Rattle.window_resort.proofs.plain.is_ready.Goals as goal
use Rattle.window_resort.proofs.plain.is_ready.Goals.{else-not-is_among-via-then-not-is_among+else-edge, else-not-is_among-via-else-not-is_among}

pub returns-then-edge-clause-no : goal.returns-then-edge-clause-no
returns-then-edge-clause-no c = λ lacks ready.
    let i : ℕ = c.loop-before.before-index in
    let below = c.loop-before-test.true in
    c.if-not-is_among.ensures.no (ready (get_or c.args.nodes.now i 0) (node_at c.args.nodes.now i below) (c.if-edge.ensures.0 refl))

pub loop-before-preserved : goal.loop-before-preserved
loop-before-preserved c = λ i lt edge. elim (cases_lt i c.loop-before.before-index) [
  | inl less ↦ c.loop-before.invariant i less edge
  | inr ge ↦
      let is : i ≡ c.loop-before.before-index = omega (arith, lt, ge) in
      elim c.else-not-is_among.branch [
        | else-not-is_among-via-then-not-is_among+else-edge w ↦
            absurd (false≢true (w.if-edge.ensures.1 (subst (λ (k : ℕ). Edge c.args.graph.now.model c.args.graph.now.test.now c.args.graph.now.run.now (get_or c.args.nodes.now k 0) c.args.node) is edge)))
        | else-not-is_among-via-else-not-is_among w ↦ rw is w.if-not-is_among.ensures.yes
      ]
]

pub returns-clause-yes : goal.returns-clause-yes
returns-clause-yes c =
    let past = c.loop-before-test.false in
    let until = c.loop-before.auto.before-index-end in (
      c.if-is_among.ensures.no,
      ready_by_all (Edge c.args.graph.now.model c.args.graph.now.test.now c.args.graph.now.run.now) c.args.nodes.now c.args.placed.now c.args.node
          (λ i below. c.loop-before.invariant i (omega (arith, below, past, until))),
    )
