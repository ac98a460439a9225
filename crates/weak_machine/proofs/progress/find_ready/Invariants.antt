use Rattle.std.proofs.Common.{◌≡◌, ℕ, ◌<◌, ◌&&◌, length, get_or}
use Rattle.std.specs.Prelude.{◌==◌, nat_lt}
use Rattle.weak_machine.specs.NodeSets.{has_flag}
use Rattle.weak_machine.proofs.progress.find_ready.Given as goal

abbrev pub invariant-loop-node : goal.invariant-loop-node
invariant-loop-node l = record {
  long : length l.ready ≡ length l.missing;
  found : (n : ℕ) → n < length l.missing → has_flag l.ready n ≡ (nat_lt n l.node && (get_or l.missing n 0 == 0));
}
