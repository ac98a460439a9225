use Rattle.std.proofs.Common.{arith}
use Rattle.std.proofs.lemmas.Bool.Decides.{nat_tests}
use Rattle.graph_model.proofs.Beside.{kept_of}
use Rattle.graph_model.proofs.RunSources.{not_kept}
use Rattle.graph_model.proofs.kept_order.kept.Goals as goal
use Rattle.graph_model.proofs.kept_order.kept.Goals.{then-a-b, else-a-b}

pub returns-then-thread_of : goal.returns-then-thread_of
returns-then-thread_of c = elim c.if-a-b.branch [
  | then-a-b w ↦
      let is = kept_of c.args.model c.args.test.now c.args.a c.args.b _ _ _ _ w.thread_of.ensures.found w.thread_of-then-a-b.ensures.found c.action.ensures.found c.action-then-thread_of.ensures.found in
      grind (arith, nat_tests, is, c.keeps.ensures, w.value-is, w.if-a-b, c.if-thread_of.true)
  | else-a-b w ↦ grind (arith, w.value-is, c.if-thread_of.true)
]

pub returns-else-thread_of : goal.returns-else-thread_of
returns-else-thread_of c = elim c.if-a-b.branch [
  | then-a-b w ↦
      let no = not_kept c.args.model c.args.test.now c.args.a c.args.b _ _ w.thread_of.ensures.found w.thread_of-then-a-b.ensures.found (grind (arith, nat_tests, w.value-is, c.if-thread_of.false)) in
      grind (arith, no, c.if-thread_of.false)
  | else-a-b w ↦ grind (arith, nat_tests, w.value-is, w.if-a-b, c.if-thread_of.false)
]
