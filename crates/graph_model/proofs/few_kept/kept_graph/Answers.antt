use Rattle.std.proofs.Common.{ℕ, ◌*◌, ap, ◌∙◌}
use Rattle.digraph.specs.Digraph.{Digraph}
use Rattle.graph_model.proofs.Passes.{all_into_room}
use Rattle.graph_model.proofs.few_kept.kept_graph.Goals as goal

pub add_all_onward-requires-clause-room : goal.add_all_onward-requires-clause-room
add_all_onward-requires-clause-room c =
    all_into_room c.args.model c.args.test.now c.in_ok-graph.graph c.add_all_into.new.graph c.in_ok-add_all_into.ensures
    (ap (λ (g : Digraph). g.edges) c.in_ok-graph.ensures)
    (ap (λ (g : Digraph). g.room) c.in_ok-graph.ensures ∙ ap (λ (n : ℕ). 4 * n) c.ops-ops.ensures.count)
