-- The edges of one load after another.
use Rattle.std.proofs.Common.{◌≡◌, ℕ, ◌+◌, ◌*◌, ◌<◌, ◌≤◌, List, [], ◌∷◌, ◌++◌, length, get_or, take, All, Contains, arith, sym, ap, subst, ◌∙◌, append-nil}
use Rattle.std.specs.List.{flat_map}
use Rattle.std.proofs.lemmas.Grind.{flat_map-append}
use Rattle.std.proofs.lemmas.List.{get_or_default, take_more, take_all}
use Rattle.orders.proofs.Members.{Contains-filter_back, Contains-flat_map_back}
use Rattle.test_lang.specs.Program.{Program, all_nodes, op_count}
use Rattle.test_lang.specs.Values.{is_load_at, load_count, load_nodes}
use Rattle.test_lang.specs.declared.op.MemModel.{MemModel}
use Rattle.test_lang.proofs.EdgeTests.{edge-nodes}
use Rattle.test_lang.proofs.Ranks.{length-load_nodes}
use Rattle.graph_model.specs.LoadEdges.{edges_of_load}
use Rattle.graph_model.proofs.LoadEdges.{load_among}

element : {X : Type 0} (xs : List X) (k : ℕ) (d : X) → k < length xs → Contains xs (get_or xs k d)
element xs k d lt = (k, lt, get_or_default xs k (get_or xs k d) d lt)

-- the edges of all loads lead between nodes
pub loads_ends : (m : MemModel) (p : Program) (run : List ℕ) (nodes : ℕ) (edges : List (ℕ × ℕ)) → nodes ≡ op_count p →
    edges ≡ flat_map (edges_of_load p run) (load_nodes p) → All (λ edge. (edge.0 < nodes) × (edge.1 < nodes)) edges
loads_ends m p run nodes edges count e = λ k d below.
    let edge : ℕ × ℕ = get_or edges k d in
    let here : Contains (flat_map (edges_of_load p run) (load_nodes p)) edge = subst (λ (list : List (ℕ × ℕ)). Contains list edge) e (element edges k d below) in
    let load = Contains-flat_map_back (edges_of_load p run) (load_nodes p) edge here in
    let is_load = (Contains-filter_back (is_load_at p) (all_nodes p) load.0 load.1).1 in
    let ends = edge-nodes m p run edge.0 edge.1 (load_among m p run load.0 is_load edge.0 edge.1 load.2) in
    subst (λ (n : ℕ). (edge.0 < n) × (edge.1 < n)) (sym count) ends

-- one load more, and all of them

module _ (p : Program) (run : List ℕ) where
  pub loads_more : (rank : ℕ) (before after : List (ℕ × ℕ)) → rank < load_count p → before ≡ flat_map (edges_of_load p run) (take rank (load_nodes p)) →
      after ≡ before ++ edges_of_load p run (get_or (load_nodes p) rank 0) → after ≡ flat_map (edges_of_load p run) (take (rank + 1) (load_nodes p))
  loads_more rank before after lt e d =
      let f : ℕ → List (ℕ × ℕ) = edges_of_load p run in
      let loads : List ℕ = load_nodes p in
      let load : ℕ = get_or loads rank 0 in
      let all = length-load_nodes p in
      d
      ∙ ap (λ (list : List (ℕ × ℕ)). list ++ f load) e
      ∙ ap (λ (more : List (ℕ × ℕ)). flat_map f (take rank loads) ++ more) (sym (append-nil (f load)))
      ∙ sym (flat_map-append f (take rank loads) (load ∷ []))
      ∙ ap (flat_map f) (sym (take_more loads rank 0 (omega (arith, lt, all))))

  pub loads_all : (rank : ℕ) (edges : List (ℕ × ℕ)) → edges ≡ flat_map (edges_of_load p run) (take rank (load_nodes p)) → load_count p ≤ rank →
      edges ≡ flat_map (edges_of_load p run) (load_nodes p)
  loads_all rank edges e done =
      let all = length-load_nodes p in
      e ∙ ap (flat_map (edges_of_load p run)) (take_all rank (load_nodes p) (omega (arith, done, all)))

-- how many edges there are
pub few_more : (rank each count new : ℕ) → count ≤ rank * each → new ≤ count + each → new ≤ (rank + 1) * each
few_more rank each count new old few = let more : (rank + 1) * each ≡ rank * each + each = grind arith in omega (arith, more, old, few)
