use Rattle.std.proofs.Common.{◌≢◌, ◌<◌, ℕ, get_or}
use Rattle.full_sort.proofs.tests.is_window.Given as goal

abbrev pub invariant-loop-place : goal.invariant-loop-place
invariant-loop-place l = record {
  below : (k : ℕ) → k < l.place → get_or l.window k 0 < l.nodes;
  once : (j k : ℕ) → j < k → k < l.place → get_or l.window j 0 ≢ get_or l.window k 0;
}

abbrev pub invariant-loop-before : goal.invariant-loop-before
invariant-loop-before l = (j : ℕ) → j < l.before → get_or l.window j 0 ≢ get_or l.window l.place 0
