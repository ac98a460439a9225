-- The work on signatures that are cut into chunks, each of which is walked by itself.
use Rattle.std.specs.Prelude.{◌≡◌, ℕ, zero, suc, ◌+◌, ◌<◌, List, Option, length}
use Rattle.std.specs.Fork.{slice_chunk}
use Rattle.std.specs.Int.{div_ceil}
use Rattle.std.specs.List.{AllZip}
use Rattle.test_lang.specs.declared.op.MemModel.{MemModel}
use Rattle.test_lang.specs.Program.{Program}
use Rattle.test_lang.specs.Signatures.{Means}
use Rattle.verdict_report.specs.declared.report.Work.{Work}
use Rattle.window_resort.specs.declared.verdicts.Verdict.{Verdict}
use Rattle.window_resort.specs.Walks.{Base, IsChunkWalk, work_of}

-- A chunk of signatures is walked: the runs that they mean, one after another, from no base.
pub record IsWalked (model : MemModel) (p : Program) (signatures : List (List ℕ)) (verdicts : List Verdict) : Type 0 where
  pub runs : List (List ℕ)
  pub mean : AllZip (Means p) signatures runs
  pub bases : List (Option Base)
  pub walk : IsChunkWalk model p runs verdicts bases

-- the sum of f over the numbers below n
abbrev pub sum_below : (ℕ → ℕ) → ℕ → ℕ
sum_below f zero = 0
sum_below f (suc n) = sum_below f n + f n

-- The work on signatures in chunks of this size, of which the last may be shorter: how many chunks they are, and the sums of what the walks of these count.
pub record IsWorkInChunks (model : MemModel) (p : Program) (chunk : ℕ) (signatures : List (List ℕ)) (work : Work) : Type 0 where
  pub chunks : work.chunks ≡ div_ceil (length signatures) chunk
  -- the verdicts of the walk of each chunk, by its number
  pub verdicts : ℕ → List Verdict
  pub walked : (number : ℕ) → number < work.chunks → IsWalked model p (slice_chunk signatures chunk number) (verdicts number)
  pub full : work.full ≡ sum_below (λ number. (work_of (verdicts number)).full) work.chunks
  pub kept : work.kept ≡ sum_below (λ number. (work_of (verdicts number)).kept) work.chunks
  pub resorted : work.resorted ≡ sum_below (λ number. (work_of (verdicts number)).resorted) work.chunks
  pub nodes : work.nodes ≡ sum_below (λ number. (work_of (verdicts number)).nodes) work.chunks
