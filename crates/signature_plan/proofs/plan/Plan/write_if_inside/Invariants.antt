use Rattle.std.proofs.Common.{◌≡◌, ◌<◌, ℕ, get_or}
use Rattle.std.specs.Bool.{OnTrue}
use Rattle.test_lang.specs.Runs.{IsInside}
use Rattle.test_lang.specs.Signatures.{signature}
use Rattle.signature_plan.specs.Words.{ReadCandidates}
use Rattle.signature_plan.proofs.GroupTables.{group_start}
use Rattle.signature_plan.proofs.plan.Plan.write_if_inside.Given as goal

abbrev pub invariant-loop-place : goal.invariant-loop-place
invariant-loop-place l = record {
  first : l.first ≡ group_start l.self l.place;
  inside : OnTrue l.inside (ReadCandidates l.self l.run 0 l.first);
  written : IsInside l.self l.run → (k : ℕ) → k < l.place → get_or l.out k 0 ≡ get_or (signature l.self l.run) k 0;
}
