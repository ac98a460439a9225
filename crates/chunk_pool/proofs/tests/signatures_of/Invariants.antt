use Rattle.std.proofs.Common.{ℕ, List, All}
use Rattle.test_lang.specs.Signatures.{Means}
use Rattle.chunk_pool.proofs.tests.signatures_of.Given as goal

abbrev pub invariant-loop-run : goal.invariant-loop-run
invariant-loop-run l = record {
  meant : All (λ words. (run : List ℕ) × Means l.plan words run) l.signatures.items;
}
