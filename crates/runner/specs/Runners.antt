-- Runners: what they have at first, and what comes of their runs.
use Rattle.std.specs.Prelude.{◌≡◌, ◌≢◌, ◌⊎◌, ℕ, zero, suc, pred, ◌+◌, ◌<◌, ◌≤◌, List, [], ◌∷◌, ◌++◌, map, length, false, Some, slice_get, slice_index, slice_index_or}
use Rattle.tally.specs.declared.entered.Entered.{Entered}
use Rattle.tally.specs.declared.outcome.Outcome.{Outcome}
use Rattle.tally.specs.Histories.{added_by}
use Rattle.test_lang.specs.Signatures.{groups}
use Rattle.signature_plan.specs.Outcomes.{outcome_of}
use Rattle.sim_core.specs.Drawn.{AreDrawnRuns}
use Rattle.sim_core.specs.Setup.{Setup}
use Rattle.turn_set.specs.Passes.{FinishedState, PassState, SetIdentity, IsFresh, IsPassOf}
use Rattle.runner.specs.declared.job.Job.{Job}
use Rattle.runner.specs.declared.task.Ran.{Ran}
use Rattle.runner.specs.declared.task.Task.{Task}
use Rattle.runner.specs.Jobs.{setup_of}

-- the elements at the places k, k + n, k + 2 n and so on
abbrev pub each_nth : {X : Type 0} → ℕ → ℕ → List X → List X
each_nth n k [] = []
each_nth n zero (x ∷ xs) = x ∷ each_nth n (pred n) xs
each_nth n (suc k) (x ∷ xs) = each_nth n k xs

-- The outcomes of runner k's runs in order: of the job's drawn runs, those with the numbers k, k + runners and so on.
abbrev pub AreOutcomesOf : Job → ℕ → ℕ → List Outcome → Type 0
AreOutcomesOf job runners k outcomes =
    (runs : List (List ℕ)) → AreDrawnRuns (setup_of job) job.seed job.runs runs → outcomes ≡ map (outcome_of job.test.now) (each_nth runners k runs)

-- a late entry is of a pass that was told once at least that the turn was taken
abbrev pub LateIsBusy : FinishedState → Type 0
LateIsBusy finished = (i : ℕ) (e : Entered) → finished.finished_length ≤ i → slice_get finished.history i ≡ Some e → 1 ≤ slice_index finished.busy e.pass

-- ---- a runner

-- it has a fresh pass with its number, an empty batch, a machine for the job, and room for a signature
pub record IsReady {M : Type 0} (setup_at : M → Setup) (job : Job) (set : SetIdentity) (k : ℕ) (task : Task M) : Type 0 where
  pub pass : IsPassOf set task.pass
  pub number : task.pass.number ≡ k
  pub fresh : IsFresh task.pass
  pub batch : task.batch.items ≡ []
  pub setup : setup_at task.machine ≡ setup_of job
  pub words : length task.words.items ≡ length (groups job.test.now)

-- one try was made: the batch went into the pass's list, or it stays, and the pass was told that the turn was taken
pub record IsOffered (before : PassState) (batch : List Outcome) (after : PassState) (left : List Outcome) : Type 0 where
  pub all : after.list ++ left ≡ before.list ++ batch
  pub late : (left ≡ []) ⊎ (1 ≤ after.busy)
  pub once : after.turns + after.busy ≡ before.turns + before.busy + 1

-- unless memory was refused, what its pass added and what is left are the outcomes of its runs, and some is left only where the pass was told that the turn was taken
pub record HasRun (job : Job) (set : SetIdentity) (runners k : ℕ) (ran : Ran) : Type 0 where
  pub pass : IsPassOf set ran.pass
  pub number : ran.pass.number ≡ k
  pub all : ran.failed ≡ false → AreOutcomesOf job runners k (ran.pass.list ++ ran.batch.items)
  pub late : ran.failed ≡ false → (ran.batch.items ≡ []) ⊎ (1 ≤ ran.pass.busy)

-- ---- all runners, by rising number

abbrev pub AreReady : {M : Type 0} → (M → Setup) → Job → SetIdentity → List (Task M) → Type 0
AreReady {M} setup_at job set tasks = (k : ℕ) (d : Task M) → k < length tasks → IsReady setup_at job set k (slice_index_or tasks k d)

abbrev pub HaveRun : Job → SetIdentity → ℕ → List Ran → Type 0
HaveRun job set runners rans = (k : ℕ) (d : Ran) → k < length rans → HasRun job set runners k (slice_index_or rans k d)

-- ---- what is left is put

-- the batch of pass k
abbrev pub batch_of : List (List Outcome) → ℕ → List Outcome
batch_of batches k = slice_index_or batches k []

-- behind the history stands, of each pass from a number on, its batch, and of the others nothing
pub record PutFrom (history : List Entered) (batches : List (List Outcome)) (from : ℕ) (longer : List Entered) : Type 0 where
  pub rest : List Entered
  pub is : longer ≡ history ++ rest
  pub above : (k : ℕ) → from ≤ k → added_by rest k ≡ batch_of batches k
  pub below : (k : ℕ) → k < from → added_by rest k ≡ []
  pub some_left : (i : ℕ) (e : Entered) → slice_get rest i ≡ Some e → batch_of batches e.pass ≢ []

abbrev pub HasPut : List Entered → List (List Outcome) → List Entered → Type 0
HasPut history batches longer = PutFrom history batches 0 longer
