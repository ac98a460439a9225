use Rattle.candidates.proofs.RunLemmas.{gives_none, gives_more}
use Rattle.candidates.proofs.candidate_table.Candidates.is_inside.Goals as goal

pub loop-rank-init : goal.loop-rank-init
loop-rank-init c = gives_none c.args.self.now c.args.run.now

pub loop-rank-preserved : goal.loop-rank-preserved
loop-rank-preserved c =
    gives_more c.args.self.now c.args.run.now c.loop-rank.rank c.loop-rank.inside c.place_if_any-is_candidate.result.1 c.loop-rank.invariant c.place_if_any-is_candidate.ensures.candidate
