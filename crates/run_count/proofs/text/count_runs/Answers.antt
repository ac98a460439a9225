use Rattle.run_count.proofs.Joining.{read-from}
use Rattle.run_count.proofs.Whole.{whole-err, whole-few, whole-ok}
use Rattle.run_count.proofs.text.count_runs.Goals as goal

pub join_pieces-requires : goal.join_pieces-requires
join_pieces-requires g c = (
  c.args.plan.now,
  c.in_ok-counts.ensures.texts,
  read-from c.args.most c.args.plan.now c.args.line c.args.text.now c.in_ok-counts.counts.items c.in_ok-counts.ensures c.requires.lines,
)

pub returns-clause-ok : goal.returns-clause-ok
returns-clause-ok g c = whole-ok c.args.most c.args.plan.now c.args.line c.args.text.now c.in_ok-counts.counts.items c.in_ok-counts.ensures c.requires.lines c.join_pieces.result c.join_pieces.ensures.ok

pub returns-clause-few : goal.returns-clause-few
returns-clause-few g c = whole-few c.args.most c.args.plan.now c.args.line c.args.text.now c.in_ok-counts.counts.items c.in_ok-counts.ensures c.requires.lines c.join_pieces.result c.join_pieces.ensures.few

pub returns-clause-err : goal.returns-clause-err
returns-clause-err g c = whole-err c.args.most c.args.plan.now c.args.line c.args.text.now c.in_ok-counts.counts.items c.in_ok-counts.ensures c.requires.lines c.join_pieces.result c.join_pieces.ensures.err
