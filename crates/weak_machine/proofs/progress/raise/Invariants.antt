use Rattle.std.proofs.Common.{◌≡◌, ℕ, ◌+◌, ◌<◌, length, take, get_or}
use Rattle.weak_machine.proofs.Missing.{times}
use Rattle.weak_machine.proofs.progress.raise.Given as goal

abbrev pub invariant-loop-node : goal.invariant-loop-node
invariant-loop-node l = record {
  long : length l.missing ≡ length l.fn.missing;
  more : (t : ℕ) → t < length l.fn.missing → get_or l.missing t 0 ≡ get_or l.fn.missing t 0 + times t (take l.node-index l.nodes);
}
