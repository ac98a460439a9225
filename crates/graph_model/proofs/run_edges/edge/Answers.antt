use Rattle.std.proofs.Common.{sym, ◌∙◌}
use Rattle.test_lang.proofs.EdgeTests.{decides_edge}
use Rattle.graph_model.proofs.run_edges.edge.Goals as goal

pub returns : goal.returns
returns c =
    let told = decides_edge c.args.model c.args.test.now c.args.run.now c.args.from c.args.to in
    ((λ h. told.0 (sym c.has_edge.ensures ∙ h)), (λ e. c.has_edge.ensures ∙ told.1 e))
