-- What the workers have in common.
use Rattle.std.specs.Prelude.{◌≡◌, ℕ, ◌<◌, ◌≤◌, ◌^◌, List, IfOk, Result, length, slice_index_or}
use Rattle.std.specs.Int.{div_ceil}
use Rattle.chunk_pool.specs.declared.share.Share.{Share}
use Rattle.chunk_pool.specs.declared.task.Task.{Task}
use Rattle.chunk_pool.specs.Shares.{AreMeant, IsShare}

-- The plan is that of the test, each signature means a run, and the numbers are within their limits.
pub record IsTask (task : Task) : Type 0 where
  pub plan_is : task.plan.now ≡ task.fixed.now.test
  pub meant : AreMeant task.fixed.now.test task.signatures.now
  pub few : length task.signatures.now ≤ 1000000
  pub some_chunk : 0 < task.chunk
  pub chunk_fits : task.chunk < 2 ^ 32
  pub some_worker : 0 < task.workers
  pub few_workers : task.workers ≤ 64

-- the share of a worker, all of whose chunks are walked
abbrev pub IsShareOf : Task → ℕ → Share → Type 0
IsShareOf task worker share = (end : ℕ) × (div_ceil (length task.signatures.now) task.chunk ≤ end) × IsShare task.fixed.now task.signatures.now task.chunk task.workers worker end share

-- each worker has its share, or memory was refused to it
abbrev pub AreShares : {E : Type 0} → Task → List (Result Share E) → Type 0
AreShares {E} task results = (worker : ℕ) (d : Result Share E) → worker < task.workers → IfOk (slice_index_or results worker d) (IsShareOf task worker)
