use Rattle.std.proofs.Common.{◌≡◌, ◌*◌, ◌%◌}
use Rattle.chunk_pool.specs.Shares.{IsFew, IsShare, IsWalker}
use Rattle.chunk_pool.proofs.walker.walk_counted.Given as goal

-- The worker's chunks with lower numbers are walked.
abbrev pub invariant-loop-number : goal.invariant-loop-number
invariant-loop-number g l = record {
  walker : IsWalker l.task.fixed.now l.walker.plan.now l.walker.run.items l.walker.cycle;
  fixed : l.walker.checker.fixed ≡ l.task.fixed.now;
  rest : l.number % l.task.workers ≡ l.worker;
  few : IsFew (l.number * l.task.chunk) l.share.counts;
  share : IsShare l.task.fixed.now l.task.signatures.now l.task.chunk l.task.workers l.worker l.number l.share;
}
