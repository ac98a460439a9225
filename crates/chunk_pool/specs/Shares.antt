-- What a worker finds on its chunks.
use Rattle.std.specs.Prelude.{◌≡◌, ◌≢◌, ◌⊎◌, ℕ, ◌+◌, ◌*◌, ◌%◌, ◌^◌, ◌<◌, ◌≤◌, List, [], ◌∷◌, Contains, Option, Some, map, fold, length, slice_index_or, slice_set, sum_by}
use Rattle.std.specs.Fork.{slice_chunk}
use Rattle.std.specs.Int.{div_ceil}
use Rattle.std.specs.List.{AllByRecursion}
use Rattle.digraph.specs.Roomed.{Roomed}
use Rattle.graph_model.specs.StaticGraph.{StaticGraph}
use Rattle.test_lang.specs.Edges.{IsRunOrder}
use Rattle.test_lang.specs.Program.{Program, op_count}
use Rattle.test_lang.specs.Signatures.{Means}
use Rattle.test_lang.specs.Values.{load_count}
use Rattle.verdict_report.specs.declared.report.Judged.{Judged}
use Rattle.verdict_report.specs.declared.report.Judged.TheVariants.{Ok, Cycle}
use Rattle.window_resort.specs.declared.verdicts.Verdict.{Verdict}
use Rattle.window_resort.specs.Walks.{Base, TakesRun, work_of}
use Rattle.chunk_pool.specs.declared.share.Counts.{Counts}
use Rattle.chunk_pool.specs.declared.share.CycleAt.{CycleAt}
use Rattle.chunk_pool.specs.declared.share.Share.{Share}
use Rattle.chunk_pool.specs.Chunks.{IsWalked, sum_below}
use Rattle.chunk_pool.specs.Verdicts.{IsJudged}

-- what walks count

abbrev pub no_counts : Counts
no_counts = record { full = 0; kept = 0; resorted = 0; nodes = 0 }

-- the counts with those of more verdicts
abbrev pub counted : Counts → List Verdict → Counts
counted counts verdicts = record {
  full = counts.full + (work_of verdicts).full;
  kept = counts.kept + (work_of verdicts).kept;
  resorted = counts.resorted + (work_of verdicts).resorted;
  nodes = counts.nodes + (work_of verdicts).nodes;
}

-- the counts with those of others
abbrev pub counts_with : Counts → Counts → Counts
counts_with counts more = record {
  full = counts.full + more.full;
  kept = counts.kept + more.kept;
  resorted = counts.resorted + more.resorted;
  nodes = counts.nodes + more.nodes;
}

-- no more than so many signatures may count
pub record IsFew (signatures : ℕ) (counts : Counts) : Type 0 where
  pub full : counts.full ≤ signatures
  pub kept : counts.kept ≤ signatures
  pub resorted : counts.resorted ≤ signatures
  pub nodes : counts.nodes ≤ signatures * 2 ^ 32

-- each signature means a run
abbrev pub AreMeant : Program → List (List ℕ) → Type 0
AreMeant p signatures = (place : ℕ) → place < length signatures → (run : List ℕ) × Means p (slice_index_or signatures place []) run

-- the verdict on the signature at a place
abbrev pub IsJudgedAt : StaticGraph → List (List ℕ) → ℕ → Judged → Type 0
IsJudgedAt s signatures place judged = IsJudged s.model s.test (slice_index_or signatures place []) judged

-- each cycle is that of the signature at its place
abbrev pub AreFound : StaticGraph → List (List ℕ) → List CycleAt → Type 0
AreFound s signatures cycles = AllByRecursion (λ found. (found.place < length signatures) × IsJudgedAt s signatures found.place (Cycle found.nodes)) cycles

-- the signature at the place is ok, or its cycle was found
abbrev pub IsSettled : StaticGraph → List (List ℕ) → List CycleAt → ℕ → Type 0
IsSettled s signatures cycles place = IsJudgedAt s signatures place Ok ⊎ Contains (map (λ found. found.place) cycles) place

-- what a worker keeps: its cycles are right, and its counts are those of no more than so many signatures
pub record IsSound (s : StaticGraph) (signatures : List (List ℕ)) (share : Share) (place : ℕ) : Type 0 where
  pub found : AreFound s signatures share.cycles.items
  pub few : IsFew place share.counts

-- what is settled stays so
abbrev pub StaySettled : StaticGraph → List (List ℕ) → List CycleAt → List CycleAt → Type 0
StaySettled s signatures old new = (place : ℕ) → IsSettled s signatures old place → IsSettled s signatures new place

-- room for the runs and the cycles of a test
pub record IsWalker (s : StaticGraph) (plan : Program) (run : List ℕ) (cycle : Roomed ℕ) : Type 0 where
  pub plan_is : plan ≡ s.test
  pub run_long : length run ≡ load_count s.test
  pub cycle_room : op_count s.test ≤ cycle.room
  pub few : op_count s.test < 2 ^ 32

-- the base, if there is one, has an order of its run
abbrev pub IsOrdered : StaticGraph → Option Base → Type 0
IsOrdered s found = (base : Base) → found ≡ Some base → IsRunOrder s.model s.test base.run base.order

-- One signature more of a chunk: the run that it means is taken, and its verdict is counted.
pub record TakesSignature (s : StaticGraph) (words : List ℕ) (base after : Option Base) (old new : Counts) : Type 0 where
  pub run : List ℕ
  pub means : Means s.test words run
  pub verdict : Verdict
  pub taken : TakesRun s.model s.test base run verdict after
  pub counts : new ≡ counted old (verdict ∷ [])

-- A chunk is walked, and its verdicts are counted.
pub record WalksChunk (s : StaticGraph) (signatures : List (List ℕ)) (old new : Counts) : Type 0 where
  pub verdicts : List Verdict
  pub walked : IsWalked s.model s.test signatures verdicts
  pub counts : new ≡ counted old verdicts

-- A worker has walked those of its chunks that have a lower number than this. The verdicts of each walk stand by the number of its chunk, and there are none of other chunks.
pub record IsShare (s : StaticGraph) (signatures : List (List ℕ)) (chunk workers worker end : ℕ) (share : Share) : Type 0 where
  pub sound : IsSound s signatures share (length signatures)
  pub verdicts : ℕ → List Verdict
  pub walked : (number : ℕ) → number < end → number * chunk < length signatures → number % workers ≡ worker → IsWalked s.model s.test (slice_chunk signatures chunk number) (verdicts number)
  pub others : (number : ℕ) → number % workers ≢ worker → verdicts number ≡ []
  pub later : (number : ℕ) → end ≤ number → verdicts number ≡ []
  pub full : share.counts.full ≡ sum_below (λ number. (work_of (verdicts number)).full) (div_ceil (length signatures) chunk)
  pub kept : share.counts.kept ≡ sum_below (λ number. (work_of (verdicts number)).kept) (div_ceil (length signatures) chunk)
  pub resorted : share.counts.resorted ≡ sum_below (λ number. (work_of (verdicts number)).resorted) (div_ceil (length signatures) chunk)
  pub nodes : share.counts.nodes ≡ sum_below (λ number. (work_of (verdicts number)).nodes) (div_ceil (length signatures) chunk)
  pub settled : (number place : ℕ) → number < end → number % workers ≡ worker → number * chunk ≤ place → place < number * chunk + chunk → place < length signatures →
      IsSettled s signatures share.cycles.items place

-- what all workers' shares come to

-- the verdicts with a cycle at the place of each that was found
abbrev pub put_cycles : List Judged → List CycleAt → List Judged
put_cycles verdicts cycles = fold (λ found cycle. slice_set found cycle.place (Cycle cycle.nodes)) verdicts cycles

abbrev pub put_shares : List Judged → List Share → List Judged
put_shares verdicts shares = fold (λ found share. put_cycles found share.cycles.items) verdicts shares

-- the counts of all shares
abbrev pub sum_counts : List Share → Counts
sum_counts shares = record {
  full = sum_by (λ share. share.counts.full) shares;
  kept = sum_by (λ share. share.counts.kept) shares;
  resorted = sum_by (λ share. share.counts.resorted) shares;
  nodes = sum_by (λ share. share.counts.nodes) shares;
}
