-- One load more has its list.
use Rattle.std.proofs.Common.{◌<◌, ◌+◌, arith}
use Rattle.test_lang.specs.Values.{load_count}
use Rattle.window_resort.proofs.Comparing.{Accepting, accepting_changed, accepting_same}
use Rattle.window_resort.proofs.load_rows.accept_loads.Goals as goal
use Rattle.window_resort.proofs.load_rows.accept_loads.Goals.{then-base-rank, else-base-rank}

pub loop-rank-preserved : goal.loop-rank-preserved
loop-rank-preserved c =
    let p = c.args.fixed.now.test in
    let base = c.args.base.now in
    let run = c.args.run.now in
    let l = c.loop-rank in
    let lt = c.loop-rank-test.true in
    let all = c.loads-rank-end.ensures.count in
    let below : l.rank < load_count p = omega (arith, lt, all) in
    elim c.if-base-rank.branch [
      | then-base-rank w ↦
          accepting_changed p base run c.args.rows.now c.args.fresh.now l.rank l.rows l.fresh below l.invariant w.if-base-rank.true c.requires.changed
          w.swap.new.x w.swap.new.y w.index-fresh-rank.result w.index-rows-rank.result w.swap.ensures.x_after w.swap.ensures.y_after c.if-base-rank.rows c.if-base-rank.fresh w.rows-is w.fresh-is
      | else-base-rank w ↦
          let now : Accepting p run c.args.rows.now c.args.fresh.now (l.rank + 1) l.rows l.fresh =
          accepting_same p base run c.args.rows.now c.args.fresh.now l.rank l.rows l.fresh below l.invariant w.if-base-rank.false c.requires.unchanged in
          rw (w.rows-is, w.fresh-is) now
    ]
