use Rattle.std.proofs.Common.{◌++◌}
use Rattle.turn_set.proofs.Counted.{last_at_end, last_is_there, none_left}
use Rattle.turn_set.proofs.counting.take_all_back.Goals as goal

pub take_back-requires : goal.take_back-requires
take_back-requires c =
    last_is_there c.requires.0 c.in-Some.others.now c.loop-last.left.now c.in-Some.last.now c.loop-last.tally c.in-Some.ensures.cases.0 (c.loop-last.invariant c.requires.0 c.requires.1)

pub loop-last-preserved : goal.loop-last-preserved
loop-last-preserved c = λ outcomes h.
    c.take_back.ensures.tally (outcomes ++ c.in-Some.others.now)
    (last_at_end outcomes c.in-Some.others.now c.loop-last.left.now c.in-Some.last.now c.loop-last.tally c.in-Some.ensures.cases.0 (c.loop-last.invariant outcomes h))

pub returns : goal.returns
returns c = λ outcomes h. none_left outcomes c.loop-last.left.now c.loop-last.tally c.in_default.ensures.cases (c.loop-last.invariant outcomes h)
