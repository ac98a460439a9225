use Rattle.std.proofs.Common.{◌≡◌, ◌++◌, ◌∙◌, ℕ, List, Some, get_or, take, sym, ap, subst}
use Rattle.std.specs.Prelude.{IsTrue, slice_get}
use Rattle.test_lang.specs.Program.{Program}
use Rattle.test_lang.specs.Runs.{IsInside}
use Rattle.test_lang.specs.Values.{is_store_at, value_of, load_nodes, rank_of}
use Rattle.graph_model.specs.StaticGraph.{StaticGraph}
use Rattle.graph_model.proofs.LoadLists.{initial_edges, store_edges, value_few}
use Rattle.graph_model.proofs.static_graph.Static.put_load.Goals as goal

pub store_of-requires-clause-few : goal.store_of-requires-clause-few
store_of-requires-clause-few c =
    let same = ap (λ (s : StaticGraph). s.test) c.self.view_is in
    let l = c.load_at-load in
    value_few c.self.inside.test c.args.run.now l.result c.args.rank l.ensures.listed l.ensures.rank (subst (λ (p : Program). IsInside p c.args.run.now) (sym same) c.requires.inside) l.ensures.is_load

pub returns-then-value-eq0-clause-put : goal.returns-then-value-eq0-clause-put
returns-then-value-eq0-clause-put c =
    let p = c.args.self.now.test in
    let same = ap (λ (s : StaticGraph). s.test) c.self.view_is in
    let load = c.load_at-load.result in
    let rank = c.args.rank in
    let listed = subst (λ (p : Program). slice_get (load_nodes p) rank ≡ Some load) same c.load_at-load.ensures.listed in
    let ranked = subst (λ (p : Program). rank_of p load ≡ rank) same c.load_at-load.ensures.rank in
    c.put_first_stores.ensures.put
    ∙ ap (λ (es : List (ℕ × ℕ)). take c.args.count c.args.out.now ++ es) (initial_edges p c.args.run.now load rank listed ranked c.if-value-eq0.true)

pub returns-else-value-eq0-clause-put : goal.returns-else-value-eq0-clause-put
returns-else-value-eq0-clause-put c =
    let p = c.args.self.now.test in
    let same = ap (λ (s : StaticGraph). s.test) c.self.view_is in
    let load = c.load_at-load.result in
    let store = c.store_of.result in
    let rank = c.args.rank in
    let listed = subst (λ (p : Program). slice_get (load_nodes p) rank ≡ Some load) same c.load_at-load.ensures.listed in
    let ranked = subst (λ (p : Program). rank_of p load ≡ rank) same c.load_at-load.ensures.rank in
    let is = subst (λ (p : Program). IsTrue (is_store_at p store)) same c.store_of.ensures.is_store in
    let value = subst (λ (p : Program). value_of p store ≡ get_or c.args.run.now rank 0) same c.store_of.ensures.value in
    c.put_by_store.ensures.put
    ∙ ap (λ (es : List (ℕ × ℕ)). take c.args.count c.args.out.now ++ es) (store_edges p c.args.run.now load rank listed ranked store is value)
