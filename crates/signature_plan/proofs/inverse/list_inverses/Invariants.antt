use Rattle.std.proofs.Common.{◌≡◌, ℕ, ◌-◌, ◌/◌, ◌^◌, ◌<◌, get_or, length}
use Rattle.candidates.specs.ByRank.{candidates_at}
use Rattle.signature_plan.proofs.inverse.list_inverses.Given as goal

abbrev pub invariant-loop-rank : goal.invariant-loop-rank
invariant-loop-rank l = record {
  long : length l.inverses.items ≡ l.rank;
  each : (r : ℕ) → r < l.rank → get_or l.inverses.items r 0 ≡ (2 ^ 64 - 1) / length (candidates_at l.candidates r);
}
