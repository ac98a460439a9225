use Rattle.std.proofs.Common.{◌≡◌, length, take}
use Rattle.chunk_pool.proofs.walker.copy_of.Given as goal

abbrev pub invariant-loop-node : goal.invariant-loop-node
invariant-loop-node l = record {
  copied : l.copy.list ≡ take l.node-index l.nodes;
  room : l.copy.room ≡ length l.nodes;
}
