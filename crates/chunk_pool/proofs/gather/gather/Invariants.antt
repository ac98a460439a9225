use Rattle.chunk_pool.proofs.Gathering.{IsGatheredTo}
use Rattle.chunk_pool.proofs.gather.gather.Given as goal

-- The shares before the rest are put together.
abbrev pub invariant-loop-share : goal.invariant-loop-share
invariant-loop-share l = record {
  so_far : IsGatheredTo l.fn.signatures l.fn.shares.items l.share-iterator.rest.items l.found.items l.counts;
}
