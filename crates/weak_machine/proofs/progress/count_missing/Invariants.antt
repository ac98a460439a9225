use Rattle.std.proofs.Common.{◌≡◌, ℕ, ◌<◌, [], length, take, get_or}
use Rattle.weak_machine.specs.Progress.{missing_of}
use Rattle.weak_machine.proofs.progress.count_missing.Given as goal

abbrev pub invariant-loop-place : goal.invariant-loop-place
invariant-loop-place l = record {
  long : length l.missing.items ≡ length l.lists;
  counts : (n : ℕ) → n < length l.lists → get_or l.missing.items n 0 ≡ missing_of (take l.place l.lists) [] n;
}
