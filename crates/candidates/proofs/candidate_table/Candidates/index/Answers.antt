use Rattle.std.proofs.Common.{Bool, None, Some, subst}
use Rattle.std.specs.Prelude.{if◌then◌else◌}
use Rattle.candidates.specs.ByRank.{FindsPlace, candidates_at}
use Rattle.candidates.proofs.Finds.{finds-none, finds-position}
use Rattle.candidates.proofs.candidate_table.Candidates.index.Goals as goal

-- where the value is a candidate's
here : (c : goal.Then-is_candidate) → FindsPlace (candidates_at c.args.self.now c.args.rank) c.args.value (Some c.place_if_any-place.result.0)
here c = subst (λ (b : Bool). FindsPlace (candidates_at c.args.self.now c.args.rank) c.args.value (if b then Some c.place_if_any-place.result.0 else None)) c.if-is_candidate.true c.place_if_any-place.ensures.found

pub returns-then-is_candidate-clause-none : goal.returns-then-is_candidate-clause-none
returns-then-is_candidate-clause-none c = finds-none (candidates_at c.args.self.now c.args.rank) c.args.value (Some c.place_if_any-place.result.0) (here c)

pub returns-then-is_candidate-clause-position : goal.returns-then-is_candidate-clause-position
returns-then-is_candidate-clause-position c = finds-position (candidates_at c.args.self.now c.args.rank) c.args.value (Some c.place_if_any-place.result.0) (here c)

-- where it is none's
nowhere : (c : goal.Else-is_candidate) → FindsPlace (candidates_at c.args.self.now c.args.rank) c.args.value None
nowhere c = subst (λ (b : Bool). FindsPlace (candidates_at c.args.self.now c.args.rank) c.args.value (if b then Some c.place_if_any-place.result.0 else None)) c.if-is_candidate.false c.place_if_any-place.ensures.found

pub returns-else-is_candidate-clause-none : goal.returns-else-is_candidate-clause-none
returns-else-is_candidate-clause-none c = finds-none (candidates_at c.args.self.now c.args.rank) c.args.value None (nowhere c)

pub returns-else-is_candidate-clause-position : goal.returns-else-is_candidate-clause-position
returns-else-is_candidate-clause-position c = finds-position (candidates_at c.args.self.now c.args.rank) c.args.value None (nowhere c)
