use Rattle.std.proofs.Common.{◌∙◌, ap, arith}
use Rattle.test_lang.specs.Program.{op_count}
use Rattle.test_lang.specs.Values.{load_count}
use Rattle.test_lang.proofs.Tabulated.{few_loads, load_total}
use Rattle.test_lang.proofs.test.Test.loads.Goals as goal

pub overflow_cast-result : goal.overflow_cast-result
overflow_cast-result c =
    let few = few_loads _ _ _ _ _ c.self.invariant in
    let ops = c.self.invariant.limits.operations in
    let len = c.self.inside.load_nodes.ok.0 in
    omega (arith, few, ops, len)

pub returns-clause-count : goal.returns-clause-count
returns-clause-count c = c.len.ensures ∙ c.self.inside.load_nodes.ok.0 ∙ load_total _ _ _ _ _ c.self.invariant ∙ ap load_count c.self.view_is

pub returns-clause-few : goal.returns-clause-few
returns-clause-few c =
    let few = few_loads _ _ _ _ _ c.self.invariant in
    let len = c.self.inside.load_nodes.ok.0 in
    let ops = ap op_count c.self.view_is in
    omega (arith, few, len, ops)
