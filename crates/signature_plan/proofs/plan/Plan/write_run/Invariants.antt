use Rattle.std.proofs.Common.{◌≡◌, ◌++◌, take, drop}
use Rattle.test_lang.specs.Signatures.{groups}
use Rattle.signature_plan.specs.Words.{run_of, values_of_groups}
use Rattle.signature_plan.proofs.GroupTables.{group_start}
use Rattle.signature_plan.proofs.plan.Plan.write_run.Given as goal

abbrev pub invariant-loop-place : goal.invariant-loop-place
invariant-loop-place l = record {
  first : l.first ≡ group_start l.self l.place;
  written : take l.first l.out ++ values_of_groups l.self (drop l.place (groups l.self)) (drop l.place l.words) ≡ run_of l.self l.words;
}
