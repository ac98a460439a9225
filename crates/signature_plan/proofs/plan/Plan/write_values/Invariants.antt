use Rattle.std.proofs.Common.{◌≡◌, ◌++◌, take, drop}
use Rattle.signature_plan.specs.Words.{group_values, loads_between}
use Rattle.signature_plan.proofs.plan.Plan.write_values.Given as goal

abbrev pub invariant-loop-rank : goal.invariant-loop-rank
invariant-loop-rank l = record {
  written : take l.rank l.out ++ group_values l.self l.word (loads_between l.self l.rank l.end) ≡ take l.first l.fn.out ++ group_values l.self l.fn.word (loads_between l.self l.first l.end);
  behind : drop l.rank l.out ≡ drop l.rank l.fn.out;
}
