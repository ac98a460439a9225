use Rattle.std.proofs.Common.{◌<◌, ℕ, subst}
use Rattle.full_sort.proofs.LevelSteps.{first_inside}
use Rattle.full_sort.proofs.sorting.shortest_cycle_into.Goals as goal

pub shortest_cycle-requires-clause-start : goal.shortest_cycle-requires-clause-start
shortest_cycle-requires-clause-start g c =
    let E = g.P.Pairs.edges c.args.pairs.now in
    let cycle = c.requires.on_cycle in
    subst (λ (n : ℕ). c.args.start < n) c.nodes-nodes.ensures.count
    (first_inside E c.nodes-nodes.result c.nodes-nodes.ensures.inside c.args.start cycle.0 c.args.start cycle.1.0)
