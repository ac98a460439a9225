use Rattle.std.proofs.Common.{arith, subst}
use Rattle.tally.specs.Tallies.{IsCounts}
use Rattle.tally.proofs.Growing.{IsCounts-more, total-more}
use Rattle.tally.proofs.counts.Tally.add_times.Goals as goal

pub invariant_of-self-2 : goal.invariant_of-self-2
invariant_of-self-2 c =
    let added = c.in_ok-add_times.ensures.added in
    let some = c.requires.some in
    let total = total-more _ _ _ _ c.self.invariant.0 added in
    (IsCounts-more _ _ _ _ c.self.invariant.0 (omega arith) added, omega (arith, total, c.self.invariant.1))

pub returns-clause-sound : goal.returns-clause-sound
returns-clause-sound c =
    let some = c.requires.some in
    (subst IsCounts c.self.view_is c.self.invariant.0, IsCounts-more _ _ _ _ c.self.invariant.0 (omega arith) c.in_ok-add_times.ensures.added)
