use Rattle.tally.proofs.Joining.{joining-step, joining-tally, joining-total}
use Rattle.tally.proofs.counts.Tally.join.Goals as goal

pub loop-outcome-preserved : goal.loop-outcome-preserved
loop-outcome-preserved c =
    joining-step c.args.self.now c.args.other c.loop-outcome.self c.loop-outcome.outcome-iterator c.loop-outcome.invariant c.in-Some.outcome c.in-Some.times c.next.new.self c.in-Some.ensures.steps
    c.count_on.new.self c.count_on.ensures.sound c.in_ok-count_on.ensures.added

pub returns-clause-total : goal.returns-clause-total
returns-clause-total c = joining-total c.args.self.now c.args.other c.loop-outcome.self c.loop-outcome.outcome-iterator c.loop-outcome.invariant c.in-None.ensures.steps.0

pub returns-clause-tally : goal.returns-clause-tally
returns-clause-tally c = joining-tally c.args.self.now c.args.other c.loop-outcome.self c.loop-outcome.outcome-iterator c.loop-outcome.invariant c.in-None.ensures.steps.0
