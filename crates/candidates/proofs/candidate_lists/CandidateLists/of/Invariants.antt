use Rattle.candidates.specs.Tables.{ListsLoads}
use Rattle.candidates.proofs.candidate_lists.CandidateLists.of.Given as goal

abbrev pub invariant-loop-rank : goal.invariant-loop-rank
invariant-loop-rank l = ListsLoads l.test l.rank l.lists.loads.items l.lists.values.items l.lists.places.items
