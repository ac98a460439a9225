use Rattle.std.proofs.Common.{◌≡◌, ℕ, take, length, All}
use Rattle.full_sort.specs.Bits.{bit_of}
use Rattle.full_sort.specs.Waiting.{IsFree}
use Rattle.full_sort.proofs.window.find_free.Given as goal

abbrev pub invariant-loop-node : goal.invariant-loop-node
invariant-loop-node l = record {
  only : (t : ℕ) → bit_of l.ready t ≡ 1 → IsFree l.waiting l.marks t;
  noted : All (λ z. IsFree l.waiting l.marks z → bit_of l.ready z ≡ 1) (take l.node-index l.window);
  room : length l.ready ≡ length l.fn.ready;
}
