use Rattle.std.proofs.Common.{◌≡◌, ℕ, ◌<◌, ◌≤◌}
use Rattle.std.specs.Prelude.{slice_range}
use Rattle.chunk_pool.specs.Shares.{IsOrdered, IsSettled, IsSound, IsWalker, StaySettled}
use Rattle.chunk_pool.proofs.ChunkWalks.{IsWalkedTo}
use Rattle.chunk_pool.proofs.walker.Walker.walk.Given as goal

-- The signatures before the place are walked.
abbrev pub invariant-loop-place : goal.invariant-loop-place
invariant-loop-place g l = record {
  from : l.first ≤ l.place;
  walker : IsWalker l.fn.self.checker.fixed l.self.plan.now l.self.run.items l.self.cycle;
  fixed : l.self.checker.fixed ≡ l.fn.self.checker.fixed;
  ordered : IsOrdered l.fn.self.checker.fixed l.self.checker.base;
  walked : IsWalkedTo l.fn.self.checker.fixed (slice_range l.signatures l.first l.place) l.self.checker.base l.fn.share.counts l.share.counts;
  sound : IsSound l.fn.self.checker.fixed l.signatures l.share l.place;
  settled : (place : ℕ) → l.first ≤ place → place < l.place → IsSettled l.fn.self.checker.fixed l.signatures l.share.cycles.items place;
  kept : StaySettled l.fn.self.checker.fixed l.signatures l.fn.share.cycles.items l.share.cycles.items;
}
