use Rattle.std.proofs.Common.{◌∙◌, ◌+◌, ap, arith}
use Rattle.tally.specs.Tallies.{total_of}
use Rattle.tally.proofs.Growing.{IsCounts-more, IsTally-push, total-more}
use Rattle.tally.proofs.counts.Tally.add.Goals as goal

pub invariant_of-self-2 : goal.invariant_of-self-2
invariant_of-self-2 c =
    let added = c.in_ok-add_times.ensures.added in
    let total = total-more _ _ _ 1 c.self.invariant.0 added in
    (IsCounts-more _ _ _ 1 c.self.invariant.0 (omega arith) added, omega (arith, total, c.self.invariant.1))

pub returns-clause-total : goal.returns-clause-total
returns-clause-total c = total-more _ _ _ 1 c.self.invariant.0 c.in_ok-add_times.ensures.added ∙ ap (λ pairs. total_of pairs + 1) c.self.view_is

pub returns-clause-tally : goal.returns-clause-tally
returns-clause-tally c = rw (← c.self.view_is) (λ outcomes h. IsTally-push outcomes _ _ _ h c.in_ok-add_times.ensures.added)

pub returns-clause-sound : goal.returns-clause-sound
returns-clause-sound c = IsCounts-more _ _ _ 1 c.self.invariant.0 (omega arith) c.in_ok-add_times.ensures.added
