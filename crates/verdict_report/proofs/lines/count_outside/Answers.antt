use Rattle.std.proofs.Common.{arith}
use Rattle.verdict_report.proofs.Walk.{outsides-le}
use Rattle.verdict_report.proofs.lines.count_outside.Goals as goal

pub overflow_add-count : goal.overflow_add-count
overflow_add-count c = omega (arith, c.loop-outcome.invariant, outsides-le c.args.tally.now, c.iter-outcome-items.ensures.few)
