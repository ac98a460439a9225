use Rattle.std.proofs.Common.{◌≡◌, replicate}
use Rattle.verdict_report.specs.declared.report.Judged.TheVariants.{Ok as FoundOk}
use Rattle.chunk_pool.proofs.gather.all_ok.Given as goal

abbrev pub invariant-loop : goal.invariant-loop
invariant-loop l = record {
  ok : l.found.items ≡ replicate l.counter FoundOk;
}
