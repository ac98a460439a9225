use Rattle.chunk_pool.proofs.OneVerdict.{one_list}
use Rattle.chunk_pool.proofs.laws.signatures_have_one_verdict_each.Goals as goal

pub returns : goal.returns
returns c = one_list
