use Rattle.std.proofs.Common.{◌≡◌, ◌++◌, ℕ, List, take, ap, subst, ◌∙◌}
use Rattle.digraph.specs.Digraph.{Digraph}
use Rattle.graph_model.specs.StaticGraph.{StaticGraph, IsStaticGraph, few_run_edges}
use Rattle.graph_model.proofs.RunGraphs.{loads_ends}
use Rattle.graph_model.proofs.RunVerdicts.{stands_for_run}
use Rattle.graph_model.proofs.static_graph.Static.run_into.Goals as goal

pub add_all-requires-clause-ends : goal.add_all-requires-clause-ends
add_all-requires-clause-ends g c =
    let s = c.args.self.now in
    let sound = subst IsStaticGraph c.self.view_is c.self.invariant.sound in
    let nodes = ap (λ (x : Digraph). x.nodes) c.truncate_to.ensures ∙ c.requires.nodes ∙ sound.nodes in
    loads_ends s.model s.test c.args.run.now c.truncate_to.new.self.nodes (take c.put_loads-count.result c.put_loads-count.new.out) nodes c.put_loads-count.ensures.put

pub returns-clause-verdicts : goal.returns-clause-verdicts
returns-clause-verdicts g c =
    let s = c.args.self.now in
    let sound = subst IsStaticGraph c.self.view_is c.self.invariant.sound in
    let put : List (ℕ × ℕ) = take c.put_loads-count.result c.put_loads-count.new.out in
    let made : c.add_all.new.self ≡ record c.args.graph.now { edges = few_run_edges s c.args.run.now } =
    c.add_all.ensures
    ∙ ap (λ (x : Digraph). record x { edges = x.edges ++ put }) c.truncate_to.ensures
    ∙ ap (λ (x : StaticGraph). record c.args.graph.now { edges = x.graph.edges ++ put }) c.self.view_is
    ∙ ap (λ (list : List (ℕ × ℕ)). record c.args.graph.now { edges = s.graph.edges ++ list }) c.put_loads-count.ensures.put in
    stands_for_run s c.args.run.now sound c.requires.inside c.add_all.new.self (ap (λ (x : Digraph). x.nodes) made ∙ c.requires.nodes) (ap (λ (x : Digraph). x.edges) made)
