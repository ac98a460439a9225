use Rattle.std.proofs.Common.{◌∙◌, ap}
use Rattle.clap.specs.Words.{app_of, with_rule}
use Rattle.command_line.specs.Rows.{number_rule}
use Rattle.command_line.proofs.Chain.{one_more}
use Rattle.command_line.proofs.matches.with_numbers.Goals as goal

pub loop-number-preserved : goal.loop-number-preserved
loop-number-preserved c =
    let before = app_of c.loop-number.command in
    one_more number_rule _ c.args.numbers.now c.loop-number.number-index _ before _ c.loop-number-test.true c.loop-number.invariant
    (c.in_ok-command.ensures.shape c.option.ensures.local ∙ ap (with_rule before) c.option.ensures.rule)
