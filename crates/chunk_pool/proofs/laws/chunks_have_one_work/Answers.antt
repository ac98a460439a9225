use Rattle.chunk_pool.proofs.OneWork.{one_work}
use Rattle.chunk_pool.proofs.laws.chunks_have_one_work.Goals as goal

pub returns : goal.returns
returns c = one_work
