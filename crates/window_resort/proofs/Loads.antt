-- The few edges of the loads, one after another.
use Rattle.std.proofs.Common.{◌≡◌, ℕ, suc, ◌+◌, ◌<◌, List, [], ◌∷◌, ◌++◌, get_or, Contains, All, Bool, true, false, cond, arith, refl, sym, ap, subst, ◌∙◌, append-nil}
use Rattle.std.specs.Prelude.{if◌then◌else◌, count_by}
use Rattle.std.specs.List.{flat_map}
use Rattle.std.proofs.lemmas.Grind.{flat_map-append}
use Rattle.std.proofs.lemmas.List.{get_or_default}
use Rattle.std.proofs.lemmas.List.Sums.{sum_by_push}
use Rattle.orders.specs.Orders.{nodes_below}
use Rattle.orders.proofs.Members.{Contains-filter_back}
use Rattle.test_lang.specs.declared.op.MemModel.TheVariants.{Sc}
use Rattle.test_lang.specs.Program.{Program, all_nodes, op_count}
use Rattle.test_lang.specs.Values.{is_load_at, load_count, load_nodes}
use Rattle.test_lang.proofs.EdgeTests.{edge-nodes}
use Rattle.test_lang.proofs.Ranks.{length-load_nodes}
use Rattle.graph_model.proofs.LoadEdges.{load_among}
use Rattle.window_resort.specs.Bounds.{is_changed}
use Rattle.window_resort.specs.Changes.{changed_edges, edges_at_rank}
use Rattle.window_resort.proofs.Places.{node_at}

-- they lead between nodes
pub rank_ends : (p : Program) (run : List ℕ) (rank nodes : ℕ) (edges : List (ℕ × ℕ)) → rank < load_count p → nodes ≡ op_count p → edges ≡ edges_at_rank p run rank →
    All (λ edge. (edge.0 < nodes) × (edge.1 < nodes)) edges
rank_ends p run rank nodes edges below count e = λ k d at.
    let edge : ℕ × ℕ = get_or edges k d in
    let all = length-load_nodes p in
    let here : Contains (edges_at_rank p run rank) edge = subst (λ (list : List (ℕ × ℕ)). Contains list edge) e (k, at, get_or_default edges k edge d at) in
    let is_load = (Contains-filter_back (is_load_at p) (all_nodes p) (get_or (load_nodes p) rank 0) (node_at (load_nodes p) rank (omega (arith, below, all)))).1 in
    let ends = edge-nodes Sc p run edge.0 edge.1 (load_among Sc p run (get_or (load_nodes p) rank 0) is_load edge.0 edge.1 here) in
    subst (λ (n : ℕ). (edge.0 < n) × (edge.1 < n)) (sym count) ends

pub below_more : (n : ℕ) → nodes_below (n + 1) ≡ nodes_below n ++ n ∷ []
below_more n = let next : suc n ≡ n + 1 = omega arith in subst (λ (k : ℕ). nodes_below k ≡ nodes_below n ++ n ∷ []) next refl

-- of one load more that changed, and of one that didn't

module _ (p : Program) (base run : List ℕ) (rank : ℕ) where
  abbrev pick : ℕ → List (ℕ × ℕ)
  pick r = if is_changed base run r then edges_at_rank p run r else []

  edges_more : (edges : List (ℕ × ℕ)) → pick rank ≡ edges → changed_edges p base run (rank + 1) ≡ changed_edges p base run rank ++ edges
  edges_more edges e =
      ap (flat_map pick) (below_more rank) ∙ flat_map-append pick (nodes_below rank) (rank ∷ []) ∙ ap (λ (list : List (ℕ × ℕ)). changed_edges p base run rank ++ list) (append-nil (pick rank) ∙ e)

  pub edges_changed : is_changed base run rank ≡ true → changed_edges p base run (rank + 1) ≡ changed_edges p base run rank ++ edges_at_rank p run rank
  edges_changed e = edges_more (edges_at_rank p run rank) (ap (λ (b : Bool). if b then edges_at_rank p run rank else []) e)

  pub edges_unchanged : is_changed base run rank ≡ false → changed_edges p base run (rank + 1) ≡ changed_edges p base run rank
  edges_unchanged e = edges_more [] (ap (λ (b : Bool). if b then edges_at_rank p run rank else []) e) ∙ append-nil (changed_edges p base run rank)

-- how many changed

count_more : (base run : List ℕ) (rank : ℕ) → count_by (is_changed base run) (nodes_below (rank + 1)) ≡ count_by (is_changed base run) (nodes_below rank) + cond (is_changed base run rank) 1 0
count_more base run rank = ap (count_by (is_changed base run)) (below_more rank) ∙ sum_by_push (λ (r : ℕ). cond (is_changed base run r) 1 0) (nodes_below rank) rank

pub count_changed : (base run : List ℕ) (rank : ℕ) → is_changed base run rank ≡ true → count_by (is_changed base run) (nodes_below (rank + 1)) ≡ count_by (is_changed base run) (nodes_below rank) + 1
count_changed base run rank e = count_more base run rank ∙ ap (λ (b : Bool). count_by (is_changed base run) (nodes_below rank) + cond b 1 0) e

pub count_unchanged : (base run : List ℕ) (rank : ℕ) → is_changed base run rank ≡ false → count_by (is_changed base run) (nodes_below (rank + 1)) ≡ count_by (is_changed base run) (nodes_below rank)
count_unchanged base run rank e =
    let none : count_by (is_changed base run) (nodes_below rank) + 0 ≡ count_by (is_changed base run) (nodes_below rank) = omega arith in
    count_more base run rank ∙ ap (λ (b : Bool). count_by (is_changed base run) (nodes_below rank) + cond b 1 0) e ∙ none
