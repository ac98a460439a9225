use Rattle.std.proofs.Common.{◌≡◌, ◌↔◌, ℕ, ◌<◌, get_or, length}
use Rattle.full_sort.specs.Bits.{bit_of}
use Rattle.full_sort.proofs.whole.find_ready.Given as goal

abbrev pub invariant-loop-node : goal.invariant-loop-node
invariant-loop-node l = record {
  found : (t : ℕ) → (bit_of l.ready t ≡ 1) ↔ ((t < l.node) × (get_or l.counts t 0 ≡ 0));
  room : length l.ready ≡ length l.fn.ready;
}
