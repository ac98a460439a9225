-- What all workers' shares come to.
use Rattle.std.specs.Prelude.{◌≡◌, ℕ, ◌<◌, List, Result, Ok, IfOk, map, replicate}
use Rattle.std.specs.List.{AllByRecursion}
use Rattle.verdict_report.specs.declared.report.Judged.TheVariants.{Ok as FoundOk}
use Rattle.chunk_pool.specs.declared.checked.Checked.{Checked}
use Rattle.chunk_pool.specs.declared.share.Share.{Share}
use Rattle.chunk_pool.specs.Shares.{IsFew, put_shares, sum_counts}

-- a share's places are among so many, and its counts are those of no more signatures than there may be
pub record IsSmall (signatures : ℕ) (share : Share) : Type 0 where
  pub within : AllByRecursion (λ found. found.place < signatures) share.cycles.items
  pub few : IsFew 1000000 share.counts

abbrev pub AreSmall : {E : Type 0} → ℕ → List (Result Share E) → Type 0
AreSmall signatures results = AllByRecursion (λ result. IfOk result (IsSmall signatures)) results

-- Each worker has a share. The verdicts are ok, but for the cycles of the shares, and the work is the sum of theirs.
pub record IsGathered {E : Type 0} (signatures chunks : ℕ) (results : List (Result Share E)) (checked : Checked) : Type 0 where
  pub shares : List Share
  pub all : results ≡ map Ok shares
  pub found : checked.found.items ≡ put_shares (replicate signatures FoundOk) shares
  pub work : checked.work ≡ record {
    chunks = chunks;
    full = (sum_counts shares).full;
    kept = (sum_counts shares).kept;
    resorted = (sum_counts shares).resorted;
    nodes = (sum_counts shares).nodes;
  }
