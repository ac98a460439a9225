use Rattle.candidates.specs.ByRank.{GivesCandidates}
use Rattle.candidates.proofs.candidate_table.Candidates.first_outside.Given as goal

abbrev pub invariant-loop-rank : goal.invariant-loop-rank
invariant-loop-rank l = GivesCandidates l.self l.run l.rank
