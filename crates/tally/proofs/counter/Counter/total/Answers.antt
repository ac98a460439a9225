use Rattle.std.proofs.Common.{ap, arith}
use Rattle.tally.specs.Counting.{waiting_rows}
use Rattle.tally.proofs.Each.{total-before, waiting-length}
use Rattle.tally.proofs.counter.Counter.total.Goals as goal

pub overflow_add-result : goal.overflow_add-result
overflow_add-result c =
    let room = c.self.invariant.0.room in
    let long = waiting-length c.self.inside.queue.rows c.self.inside.batch.rows in
    record { fits = omega (arith, room, long) }

pub overflow_add-result-2 : goal.overflow_add-result-2
overflow_add-result-2 c =
    let room = c.self.invariant.0.room in
    let long = waiting-length c.self.inside.queue.rows c.self.inside.batch.rows in
    record { fits = omega (arith, room, long) }

pub returns : goal.returns
returns c =
    let stands = ap (λ counter. counter.pairs) c.self.view_is in
    let sum = total-before c.args.self.now.pairs c.self.inside.tally (waiting_rows c.self.inside.queue c.self.inside.batch) c.self.invariant.0 stands in
    let long = waiting-length c.self.inside.queue.rows c.self.inside.batch.rows in
    omega (arith, long, sum)
