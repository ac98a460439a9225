use Rattle.std.proofs.Common.{◌∙◌, ap}
use Rattle.clap.specs.Words.{app_of, with_rule}
use Rattle.command_line.specs.Rows.{row_rule}
use Rattle.command_line.proofs.Chain.{one_more}
use Rattle.command_line.proofs.matches.with_names.Goals as goal

pub loop-row-preserved : goal.loop-row-preserved
loop-row-preserved c =
    let before = app_of c.loop-row.command in
    one_more row_rule _ c.args.rows.now c.loop-row.row-index _ before _ c.loop-row-test.true c.loop-row.invariant
    (c.in_ok-command.ensures.shape c.option.ensures.local ∙ ap (with_rule before) c.option.ensures.rule)
