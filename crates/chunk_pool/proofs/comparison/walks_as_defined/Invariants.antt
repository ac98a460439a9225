use Rattle.std.proofs.Common.{◌≡◌, length}
use Rattle.std.specs.Prelude.{IfSome}
use Rattle.test_lang.specs.Edges.{IsRunOrder}
use Rattle.test_lang.specs.Runs.{IsInside}
use Rattle.test_lang.specs.Signatures.{groups}
use Rattle.chunk_pool.proofs.comparison.walks_as_defined.Given as goal

abbrev pub invariant-loop : goal.invariant-loop
invariant-loop l = record {
  inside : IsInside l.plan l.run;
  words : length l.words ≡ length (groups l.plan);
  test : l.checker.fixed.test ≡ l.test;
  order : IfSome l.base (λ b. IsRunOrder l.model l.test b.run b.order);
}
