-- One load more is compared.
use Rattle.std.proofs.Common.{◌≡◌, ℕ, ◌+◌, arith, subst}
use Rattle.test_lang.specs.Values.{load_count}
use Rattle.window_resort.specs.Changes.{LeadsBack, changed_edges}
use Rattle.window_resort.specs.Windows.{IsSpan}
use Rattle.window_resort.proofs.Comparing.{Compared, compared_changed, compared_same}
use Rattle.window_resort.proofs.load_rows.compare_loads.Goals as goal
use Rattle.window_resort.proofs.load_rows.compare_loads.Goals.{then-base-rank, else-base-rank}

pub loop-rank-preserved : goal.loop-rank-preserved
loop-rank-preserved g c =
    let p = c.args.fixed.now.test in
    let base = c.args.base.now in
    let run = c.args.run.now in
    let places = c.args.places.now in
    let l = c.loop-rank in
    elim c.if-base-rank.branch [
      | then-base-rank w ↦
          let found = w.compare_load-window in
          let now : Compared p base run places (l.rank + 1) found.new.fresh found.result c.args.steps.now found.new.steps =
          compared_changed p base run places l.rank l.fresh l.window c.args.steps.now l.steps l.invariant w.if-base-rank.true found.new.fresh found.result found.new.steps
          found.ensures.room found.ensures.listed found.ensures.others found.ensures.window found.ensures.few found.ensures.later in
          rw (w.fresh-is, w.window-is, w.steps-is) now
      | else-base-rank w ↦
          let now : Compared p base run places (l.rank + 1) l.fresh l.window c.args.steps.now l.steps =
          compared_same p base run places l.rank l.fresh l.window c.args.steps.now l.steps l.invariant w.if-base-rank.false in
          rw (w.fresh-is, w.window-is, w.steps-is) now
    ]

pub returns-clause-window : goal.returns-clause-window
returns-clause-window g c =
    let past = c.loop-rank-test.false in
    let until = c.loop-rank.auto.rank-end in
    let all = c.loads-rank-end.ensures.count in
    let whole : c.loop-rank.rank ≡ load_count c.args.fixed.now.test = omega (arith, past, until, all) in
    subst (λ (n : ℕ). IsSpan (LeadsBack c.args.places.now (changed_edges c.args.fixed.now.test c.args.base.now c.args.run.now n)) c.loop-rank.window) whole c.loop-rank.invariant.span
