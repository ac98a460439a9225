use Rattle.std.proofs.Common.{◌∙◌}
use Rattle.tally.proofs.Each.{CanCount-last, last-room}
use Rattle.tally.proofs.counter.count_queue.Goals as goal

pub loop-row-preserved : goal.loop-row-preserved
loop-row-preserved c =
    let h = CanCount-last c.loop-row.tally c.count_row.new.tally c.loop-row.queue.rows c.pop.new.self.rows c.in-Some.row.now c.in-Some.times c.loop-row.invariant.can c.in-Some.ensures.last
    c.in_ok-count_row.ensures.added c.in_ok-count_row.ensures.counts c.pop.ensures.dropped in
    record {
      can = h.0;
      width = c.pop.ensures.width ∙ c.loop-row.invariant.width;
      same = h.1 ∙ c.loop-row.invariant.same;
    }

pub count_row-requires-clause-room : goal.count_row-requires-clause-room
count_row-requires-clause-room c = last-room c.loop-row.tally c.loop-row.queue.rows c.in-Some.row.now c.in-Some.times c.loop-row.invariant.can c.in-Some.ensures.last
