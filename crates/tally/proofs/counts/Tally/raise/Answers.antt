use Rattle.std.proofs.Common.{◌∙◌, ◌+◌, ap, arith, subst}
use Rattle.tally.specs.Tallies.{IsCounts, with_more}
use Rattle.tally.proofs.Growing.{raised, total-more}
use Rattle.tally.proofs.counts.Tally.raise.Goals as goal

pub invariant_of-self : goal.invariant_of-self
invariant_of-self c =
    let h = raised c.self.inside.counts.entries _ c.args.outcome.now c.in-Some.count.now c.args.times c.self.invariant.0 c.in-Some.ensures.value (c.get_mut.follows.holds (c.in-Some.count.now + c.args.times)).0 in
    (h.1, omega (arith, total-more _ _ _ _ c.self.invariant.0 h.0, c.self.invariant.1))

pub returns-in-Some-clause-raised : goal.returns-in-Some-clause-raised
returns-in-Some-clause-raised c =
    let h = raised c.self.inside.counts.entries _ c.args.outcome.now c.in-Some.count.now c.args.times c.self.invariant.0 c.in-Some.ensures.value (c.get_mut.follows.holds (c.in-Some.count.now + c.args.times)).0 in
    h.0 ∙ ap (λ pairs. with_more pairs c.args.outcome.now c.args.times) c.self.view_is

pub returns-in-Some-clause-sound : goal.returns-in-Some-clause-sound
returns-in-Some-clause-sound c =
    let h = raised c.self.inside.counts.entries _ c.args.outcome.now c.in-Some.count.now c.args.times c.self.invariant.0 c.in-Some.ensures.value (c.get_mut.follows.holds (c.in-Some.count.now + c.args.times)).0 in
    (subst IsCounts c.self.view_is c.self.invariant.0, h.1)
