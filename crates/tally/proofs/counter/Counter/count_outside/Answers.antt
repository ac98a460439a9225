use Rattle.std.proofs.Common.{ap}
use Rattle.tally.specs.declared.outcome.Outcome.TheVariants.{Outside}
use Rattle.tally.specs.Counting.{waiting_rows, with_rows}
use Rattle.tally.proofs.Each.{CanCount-outcome, outcome-added, total-one_more}
use Rattle.tally.proofs.Growing.{IsTally-push}
use Rattle.tally.proofs.counter.Counter.count_outside.Goals as goal

pub invariant_of-self-2 : goal.invariant_of-self-2
invariant_of-self-2 c =
    let stands = ap (λ counter. counter.pairs) c.self.view_is in
    (CanCount-outcome c.args.self.now.pairs c.self.inside.tally (waiting_rows c.self.inside.queue c.self.inside.batch) c.self.invariant.0 stands c.add.new.self (Outside c.args.node c.args.value) c.in-Ok.ensures.added c.requires.room, c.self.invariant.1)

pub returns-clause-added : goal.returns-clause-added
returns-clause-added c =
    let stands = ap (λ counter. counter.pairs) c.self.view_is in
    outcome-added c.args.self.now.pairs c.self.inside.tally (waiting_rows c.self.inside.queue c.self.inside.batch) c.self.invariant.0 stands c.add.new.self (Outside c.args.node c.args.value) c.in-Ok.ensures.added

pub returns-clause-total : goal.returns-clause-total
returns-clause-total c =
    let stands = ap (λ counter. counter.pairs) c.self.view_is in
    total-one_more c.args.self.now.pairs c.self.inside.tally (waiting_rows c.self.inside.queue c.self.inside.batch) c.self.invariant.0 stands (with_rows c.add.new.self (waiting_rows c.self.inside.queue c.self.inside.batch)) (Outside c.args.node c.args.value)
    (outcome-added c.args.self.now.pairs c.self.inside.tally (waiting_rows c.self.inside.queue c.self.inside.batch) c.self.invariant.0 stands c.add.new.self (Outside c.args.node c.args.value) c.in-Ok.ensures.added)

pub returns-clause-counted : goal.returns-clause-counted
returns-clause-counted c =
    let stands = ap (λ counter. counter.pairs) c.self.view_is in
    λ outcomes h. IsTally-push outcomes c.args.self.now.pairs (with_rows c.add.new.self (waiting_rows c.self.inside.queue c.self.inside.batch)) (Outside c.args.node c.args.value) h
    (outcome-added c.args.self.now.pairs c.self.inside.tally (waiting_rows c.self.inside.queue c.self.inside.batch) c.self.invariant.0 stands c.add.new.self (Outside c.args.node c.args.value) c.in-Ok.ensures.added)
