use Rattle.std.proofs.Common.{◌∙◌, ap, arith, sym}
use Rattle.tally.specs.declared.outcome.Outcome.TheVariants.{Inside}
use Rattle.tally.specs.Counting.{waiting_rows, with_rows}
use Rattle.tally.proofs.Each.{CanCount-row, behind-queue, row-added, row-room, total-one_more, waiting-length}
use Rattle.tally.proofs.Growing.{IsTally-push}
use Rattle.tally.proofs.counter.Counter.count.Goals as goal

pub invariant_of-self-2 : goal.invariant_of-self-2
invariant_of-self-2 c =
    let stands = ap (λ counter. counter.pairs) (c.self.view_is ∙ c.in_ok-make_room.ensures) in
    (CanCount-row c.args.self.now.pairs c.self.inside.tally (waiting_rows c.self.inside.queue c.self.inside.batch) c.self.invariant.0 stands (waiting_rows c.self.inside.queue c.push.new.self) c.args.words.now (behind-queue c.self.inside.queue.rows c.self.inside.batch.rows c.push.new.self.rows c.args.words.now c.in_ok-push.ensures.pushed) c.requires.room, c.self.invariant.1 ∙ sym c.push.ensures.width)

pub returns-clause-added : goal.returns-clause-added
returns-clause-added c =
    let stands = ap (λ counter. counter.pairs) (c.self.view_is ∙ c.in_ok-make_room.ensures) in
    row-added c.args.self.now.pairs c.self.inside.tally (waiting_rows c.self.inside.queue c.self.inside.batch) c.self.invariant.0 stands (waiting_rows c.self.inside.queue c.push.new.self) c.args.words.now (behind-queue c.self.inside.queue.rows c.self.inside.batch.rows c.push.new.self.rows c.args.words.now c.in_ok-push.ensures.pushed)

pub returns-clause-total : goal.returns-clause-total
returns-clause-total c =
    let stands = ap (λ counter. counter.pairs) (c.self.view_is ∙ c.in_ok-make_room.ensures) in
    total-one_more c.args.self.now.pairs c.self.inside.tally (waiting_rows c.self.inside.queue c.self.inside.batch) c.self.invariant.0 stands (with_rows c.self.inside.tally (waiting_rows c.self.inside.queue c.push.new.self)) (Inside c.args.words.now)
    (row-added c.args.self.now.pairs c.self.inside.tally (waiting_rows c.self.inside.queue c.self.inside.batch) c.self.invariant.0 stands (waiting_rows c.self.inside.queue c.push.new.self) c.args.words.now (behind-queue c.self.inside.queue.rows c.self.inside.batch.rows c.push.new.self.rows c.args.words.now c.in_ok-push.ensures.pushed))

pub returns-clause-counted : goal.returns-clause-counted
returns-clause-counted c =
    let stands = ap (λ counter. counter.pairs) (c.self.view_is ∙ c.in_ok-make_room.ensures) in
    λ outcomes h. IsTally-push outcomes c.args.self.now.pairs (with_rows c.self.inside.tally (waiting_rows c.self.inside.queue c.push.new.self)) (Inside c.args.words.now) h
    (row-added c.args.self.now.pairs c.self.inside.tally (waiting_rows c.self.inside.queue c.self.inside.batch) c.self.invariant.0 stands (waiting_rows c.self.inside.queue c.push.new.self) c.args.words.now (behind-queue c.self.inside.queue.rows c.self.inside.batch.rows c.push.new.self.rows c.args.words.now c.in_ok-push.ensures.pushed))

pub push-requires : goal.push-requires
push-requires c =
    let stands = ap (λ counter. counter.pairs) (c.self.view_is ∙ c.in_ok-make_room.ensures) in
    let room = row-room c.args.self.now.pairs c.self.inside.tally (waiting_rows c.self.inside.queue c.self.inside.batch) c.self.invariant.0 stands c.requires.room in
    let long = waiting-length c.self.inside.queue.rows c.self.inside.batch.rows in
    record { width = c.requires.width ∙ ap (λ counter. counter.width) (sym (c.self.view_is ∙ c.in_ok-make_room.ensures)); room = omega (arith, room, long) }
