use Rattle.std.proofs.Common.{◌∙◌, arith, sym}
use Rattle.graph_model.proofs.WrittenBefore.{base_within}
use Rattle.graph_model.proofs.run_sources.mark_base_store.Goals as goal

pub mark_node-requires : goal.mark_node-requires
mark_node-requires c =
    let found = sym (c.requires.bases.each c.args.load c.requires.load_node) ∙ c.in-Some.is in
    let node = base_within c.args.test.now c.args.load c.in-Some.base found in
    omega (arith, node, c.requires.marks)
