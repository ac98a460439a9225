use Rattle.std.proofs.Common.{◌∙◌, ◌≤◌, ap, arith}
use Rattle.tally.specs.Tallies.{count_of, total_of}
use Rattle.tally.proofs.Shrinking.{IsTally-pop, one_less}
use Rattle.tally.proofs.counts.Tally.take_back.Goals as goal

pub invariant_of-self : goal.invariant_of-self
invariant_of-self c =
    let there : 1 ≤ count_of c.self.inside.counts.entries c.args.outcome.now = rw c.self.view_is c.requires in
    let less = one_less c.self.inside.counts.entries c.args.outcome.now c.self.invariant.0 c.take_one_back.new.counts.entries there c.take_one_back.ensures in
    (less.counts, omega (arith, less.total, c.self.invariant.1))

pub returns-clause-total : goal.returns-clause-total
returns-clause-total c =
    let there : 1 ≤ count_of c.self.inside.counts.entries c.args.outcome.now = rw c.self.view_is c.requires in
    let less = one_less c.self.inside.counts.entries c.args.outcome.now c.self.invariant.0 c.take_one_back.new.counts.entries there c.take_one_back.ensures in
    less.total ∙ ap total_of c.self.view_is

pub returns-clause-tally : goal.returns-clause-tally
returns-clause-tally c =
    let there : 1 ≤ count_of c.self.inside.counts.entries c.args.outcome.now = rw c.self.view_is c.requires in
    rw (← c.self.view_is) (λ outcomes h. IsTally-pop outcomes _ _ _ there c.take_one_back.ensures h)

pub returns-clause-sound : goal.returns-clause-sound
returns-clause-sound c =
    let there : 1 ≤ count_of c.self.inside.counts.entries c.args.outcome.now = rw c.self.view_is c.requires in
    let less = one_less c.self.inside.counts.entries c.args.outcome.now c.self.invariant.0 c.take_one_back.new.counts.entries there c.take_one_back.ensures in
    less.counts
