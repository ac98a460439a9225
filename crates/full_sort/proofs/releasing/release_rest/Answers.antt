-- Where at most three edges lead from the node, none is behind them.
use Rattle.std.proofs.Common.{ℕ, List, ap, arith}
use Rattle.std.proofs.lemmas.List.{drop_all}
use Rattle.digraph.specs.Digraph.{targets_from}
use Rattle.digraph.proofs.AtHand.{length-targets}
use Rattle.full_sort.specs.Ready.{times_in}
use Rattle.full_sort.proofs.releasing.release_rest.Goals as goal

pub returns-then-degree-near-clause-less : goal.returns-then-degree-near-clause-less
returns-then-degree-near-clause-less g c = λ t lt.
    let size = length-targets c.args.graph.now.edges c.args.node in
    let degree = c.out_degree-degree.ensures in
    let few = c.if-degree-near.true in
    let none = ap (λ (xs : List ℕ). times_in xs t) (drop_all 3 (targets_from c.args.graph.now.edges c.args.node) (omega (arith, size, degree, few))) in
    omega (arith, none)
