use Rattle.std.proofs.Common.{◌≡◌, ◌<◌, length}
use Rattle.std.specs.List.{AllByRecursion}
use Rattle.chunk_pool.specs.Shares.{put_cycles}
use Rattle.chunk_pool.proofs.gather.put_all.Given as goal

-- The cycles that are left give the whole.
abbrev pub invariant-loop-cycle : goal.invariant-loop-cycle
invariant-loop-cycle l = record {
  put : put_cycles l.found l.cycle-iterator.rest.items ≡ put_cycles l.fn.found l.fn.cycles.items;
  within : AllByRecursion (λ cycle. cycle.place < length l.found) l.cycle-iterator.rest.items;
}
