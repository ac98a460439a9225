use Rattle.graph_model.proofs.Statics.{static_of, tabled_of}
use Rattle.graph_model.proofs.static_graph.Static.of.Goals as goal

pub invariant_of-result : goal.invariant_of-result
invariant_of-result c =
    tabled_of c.args.model c.args.test.now c.in_ok-clone.field-0 c.in_ok-kept_graph.field-0 c.in_ok-next_stores.field-0.items c.in_ok-base_stores.field-0.items c.in_ok-of.field-0 c.in_ok-of-2.field-0
    c.in_ok-clone.ensures.cases c.in_ok-kept_graph.ensures.0 c.in_ok-kept_graph.ensures.1 c.in_ok-next_stores.ensures c.in_ok-base_stores.ensures c.in_ok-of.ensures c.in_ok-of-2.ensures

pub returns-clause-sound : goal.returns-clause-sound
returns-clause-sound c =
    static_of c.args.model c.args.test.now c.in_ok-clone.field-0 c.in_ok-kept_graph.field-0 c.in_ok-clone.ensures.cases c.in_ok-kept_graph.ensures.0 c.in_ok-kept_graph.ensures.1
