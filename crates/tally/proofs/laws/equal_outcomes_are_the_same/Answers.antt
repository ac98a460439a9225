use Rattle.std.proofs.Common.{rules}
use Rattle.tally.specs.OutcomeLaws.{outcome_eq_decides}
use Rattle.tally.proofs.laws.equal_outcomes_are_the_same.Goals as goal

pub returns : goal.returns
returns c = λ x y. let h = outcome_eq_decides x y in search rules
