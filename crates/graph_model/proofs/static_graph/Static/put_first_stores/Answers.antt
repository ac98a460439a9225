-- An edge for each store of the list.
use Rattle.std.proofs.Common.{◌≡◌, ◌∙◌, ◌++◌, ℕ, ◌-◌, ◌≤◌, List, length, map, take, drop, ap, sym, arith}
use Rattle.std.proofs.lemmas.List.{take_all}
use Rattle.test_lang.specs.Program.{Program}
use Rattle.graph_model.specs.FirstLists.{first_stores_to}
use Rattle.graph_model.specs.LoadEdges.{edges_to_first_stores}
use Rattle.graph_model.specs.StaticGraph.{StaticGraph}
use Rattle.graph_model.proofs.FirstLists.{few-read, pairs_to_firsts, part-read}
use Rattle.graph_model.proofs.static_graph.Static.put_first_stores.Goals as goal

pub put-count-requires : goal.put-count-requires
put-count-requires c =
    let s = c.self.inside in
    let few = few-read s.test s.first_stores.starts.items s.first_stores.stores.items c.deref.result.now c.word_of-word.result c.index.result.now c.index-2.result.now c.self.invariant.firsts
    c.word_of-word.ensures.below c.index.ensures c.index-2.ensures c.deref.ensures.value in
    let threads : length s.test.threads ≡ length c.args.self.now.test.threads = ap (λ (s : StaticGraph). length s.test.threads) c.self.view_is in
    omega (arith, few, threads)

-- the list that is added
module _ (p q : Program) (same : p ≡ q) (load word i : ℕ) (items : List ℕ) (listed : items ≡ first_stores_to p word) (end : length items ≤ i) where
  pub all-pairs : edges_to_first_stores p load ≡ map (λ s. (load, s)) (first_stores_to p word) → map (λ s. (load, s)) (take i items) ≡ edges_to_first_stores q load
  all-pairs pairs =
      ap (map (λ s. let pair : ℕ × ℕ = (load, s) in pair)) (take_all i items end ∙ listed) ∙ sym pairs ∙ ap (λ (r : Program). edges_to_first_stores r load) same

pub returns-clause-put : goal.returns-clause-put
returns-clause-put c =
    let s = c.self.inside in
    let word : ℕ = c.word_of-word.result in
    let items : List ℕ = take (c.index-2.result.now - c.index.result.now) (drop c.index.result.now c.deref.result.now) in
    let listed = part-read s.test s.first_stores.starts.items s.first_stores.stores.items c.deref.result.now word c.index.result.now c.index-2.result.now c.self.invariant.firsts
    c.word_of-word.ensures.below c.index.ensures c.index-2.ensures c.deref.ensures.value in
    let same : s.test ≡ c.args.self.now.test = ap (λ (s : StaticGraph). s.test) c.self.view_is in
    c.loop-store.invariant.put
    ∙ ap (λ (es : List (ℕ × ℕ)). take c.args.count c.args.out.now ++ es)
    (all-pairs s.test c.args.self.now.test same c.args.load word c.loop-store.store-index items listed c.loop-store-test.false (sym (pairs_to_firsts s.test c.args.load word c.word_of-word.ensures.word)))

pub returns-clause-few : goal.returns-clause-few
returns-clause-few c =
    let s = c.self.inside in
    let few = few-read s.test s.first_stores.starts.items s.first_stores.stores.items c.deref.result.now c.word_of-word.result c.index.result.now c.index-2.result.now c.self.invariant.firsts
    c.word_of-word.ensures.below c.index.ensures c.index-2.ensures c.deref.ensures.value in
    let threads : length s.test.threads ≡ length c.args.self.now.test.threads = ap (λ (s : StaticGraph). length s.test.threads) c.self.view_is in
    omega (arith, few, threads)
