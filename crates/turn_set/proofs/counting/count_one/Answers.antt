use Rattle.std.proofs.Common.{◌∷◌, ◌++◌, [], subst}
use Rattle.tally.specs.declared.outcome.Outcome.{Outcome}
use Rattle.tally.specs.Tallies.{IsTally}
use Rattle.turn_set.proofs.counting.count_one.Goals as goal
use Rattle.turn_set.proofs.counting.count_one.Goals.{in-Ok, in-Err}

pub returns-clause-counted : goal.returns-clause-counted
returns-clause-counted c = elim c.match-add.branch [
  | in-Ok w ↦ rw w.result-is (λ outcomes h. subst (λ (x : Outcome). IsTally (outcomes ++ x ∷ []) c.add.new.self) c.in_ok-copy.ensures (w.in-Ok.ensures.tally outcomes h))
  | in-Err w ↦ rw w.result-is tt
]
