use Rattle.std.proofs.Common.{◌↔◌}
use Rattle.std.specs.Prelude.{IsTrue}
use Rattle.candidates.specs.ByRank.{GivesCandidates}
use Rattle.candidates.proofs.candidate_table.Candidates.is_inside.Given as goal

abbrev pub invariant-loop-rank : goal.invariant-loop-rank
invariant-loop-rank l = IsTrue l.inside ↔ GivesCandidates l.self l.run l.rank
