use Rattle.std.proofs.Common.{arith}
use Rattle.verdict_report.proofs.Walk.{all_written, outsides-le}
use Rattle.verdict_report.proofs.lines.push_outcomes.Goals as goal

pub overflow_add-outside : goal.overflow_add-outside
overflow_add-outside c = omega (arith, c.loop-outcome.invariant.so_far.others, outsides-le c.args.tally.now, c.iter-outcome-items.ensures.few)

pub returns-clause-lines : goal.returns-clause-lines
returns-clause-lines c =
    all_written c.args.out.now.items c.loop-outcome.out.items c.args.tally.now c.args.found.now c.loop-outcome.place c.loop-outcome.outside c.loop-outcome.outcome-iterator
    c.loop-outcome.invariant.so_far c.in-None.ensures.steps.0 c.iter-outcome-items.ensures.sound.rising c.requires
