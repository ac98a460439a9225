-- A graph of the first loads of a run, and of one load more or fewer.
use Rattle.std.proofs.Common.{◌≡◌, inl, inr, ℕ, zero, suc, ◌+◌, ◌-◌, ◌*◌, ◌<◌, ◌≤◌, List, [], ◌∷◌, ◌++◌, length, get_or, set, take, Bool, true, false, cond, arith, refl, sym, ap, subst, ◌∙◌, append-nil, append_assoc, length-append}
use Rattle.std.specs.Prelude.{Option, Some, None, ◌==◌, ◌&&◌, find}
use Rattle.std.specs.List.{flat_map}
use Rattle.std.proofs.lemmas.Bool.{cases_eq}
use Rattle.std.proofs.lemmas.Grind.{get_or-set_at}
use Rattle.std.proofs.lemmas.List.{get_or-set_other, take_at}
use Rattle.orders.specs.Orders.{nodes_below}
use Rattle.orders.proofs.Below.{length-below}
use Rattle.test_lang.specs.Program.{Program, all_nodes, at_node}
use Rattle.test_lang.specs.Values.{load_count, load_nodes, same_thread}
use Rattle.test_lang.specs.Runs.{base_store, value_read, writes_for}
use Rattle.digraph.specs.Digraph.{Digraph}
use Rattle.graph_model.specs.FewKept.{edge_from, edge_to}
use Rattle.graph_model.specs.LoadEdges.{edges_by_store, edges_of_load, edges_to_first_stores, load_edge_room, next_store, store_of}
use Rattle.graph_model.specs.StaticGraph.{StaticGraph, few_run_edges}
use Rattle.graph_model.proofs.RunGraphs.{loads_all, loads_more}
use Rattle.graph_model.proofs.Sizes.{length-edge_to, length-flat_map_le}
use Rattle.window_resort.specs.Changes.{edges_at_rank}
use Rattle.window_resort.specs.Tables.{edges_up_to, HoldsLoads}
use Rattle.window_resort.proofs.RunWindows.{same_edges}

-- how many edges a load has at most

length-edge_from : (n : ℕ) (found : Option ℕ) → length (edge_from n found) ≤ 1
length-edge_from n None = omega arith
length-edge_from n (Some k) = omega arith

first_few : (p : Program) (load : ℕ) → length (edges_to_first_stores p load) ≤ length p.threads
first_few p load =
    let all = length-below (length p.threads) in
    let each =
    length-flat_map_le {X = ℕ} {Y = ℕ × ℕ} (λ thread. edge_to load (find (λ n. writes_for p load n && at_node (λ node. node.0 == thread) p n) (all_nodes p))) (nodes_below (length p.threads)) 1
    (λ thread. length-edge_to load (find (λ n. writes_for p load n && at_node (λ node. node.0 == thread) p n) (all_nodes p))) in
    omega (arith, all, each)

store_few : (p : Program) (load store : ℕ) (joined : Bool) → length {A = ℕ × ℕ} (cond joined [] ((store, load) ∷ (edge_to load (next_store p store) ++ edge_from store (base_store p load)))) ≤ 3
store_few p load store true = omega arith
store_few p load store false =
    let both = length-append (edge_to load (next_store p store)) (edge_from store (base_store p load)) in
    let one = length-edge_to load (next_store p store) in
    let other = length-edge_from store (base_store p load) in
    omega (arith, both, one, other)

by_store_few : (p : Program) (load : ℕ) (found : Option ℕ) → length (edges_by_store p load found) ≤ 3
by_store_few p load None = omega arith
by_store_few p load (Some store) = store_few p load store (same_thread p store load)

few_by : (p : Program) (load : ℕ) (found : Option ℕ) (initial : Bool) → length {A = ℕ × ℕ} (cond initial (edges_to_first_stores p load) (edges_by_store p load found)) ≤ load_edge_room p
few_by p load found true = let few = first_few p load in omega (arith, few)
few_by p load found false = let few = by_store_few p load found in omega (arith, few)

pub load_few : (p : Program) (run : List ℕ) (load : ℕ) → length (edges_of_load p run load) ≤ load_edge_room p
load_few p run load = few_by p load (store_of p (value_read p run load)) (value_read p run load == 0)

-- the edges of one load more, and of all

pub up_to_more : (s : StaticGraph) (run : List ℕ) (rank : ℕ) → rank < load_count s.test → edges_up_to s run (rank + 1) ≡ edges_up_to s run rank ++ edges_at_rank s.test run rank
up_to_more s run rank below =
    let before : List (ℕ × ℕ) = flat_map (edges_of_load s.test run) (take rank (load_nodes s.test)) in
    ap (λ (list : List (ℕ × ℕ)). s.graph.edges ++ list) (sym (loads_more s.test run rank before (before ++ edges_at_rank s.test run rank) below refl refl))
    ∙ sym (append_assoc s.graph.edges before (edges_at_rank s.test run rank))

pub up_to_all : (s : StaticGraph) (run : List ℕ) (rank : ℕ) → load_count s.test ≤ rank → edges_up_to s run rank ≡ few_run_edges s run
up_to_all s run rank done = ap (λ (list : List (ℕ × ℕ)). s.graph.edges ++ list) (loads_all s.test run rank (flat_map (edges_of_load s.test run) (take rank (load_nodes s.test))) refl done)

-- loads of the same values have the same edges
pub up_to_same : (s : StaticGraph) (held run : List ℕ) (count : ℕ) → count ≤ load_count s.test → ((rank : ℕ) → rank < count → get_or held rank 0 ≡ get_or run rank 0) →
    edges_up_to s held count ≡ edges_up_to s run count
up_to_same s held run zero few same = refl
up_to_same s held run (suc n) few same =
    let next : n + 1 ≡ suc n = omega arith in
    let below : n < load_count s.test = omega (arith, few) in
    subst (λ (k : ℕ). edges_up_to s held k ≡ edges_up_to s run k) next
    (up_to_more s held n below
    ∙ ap (λ (list : List (ℕ × ℕ)). list ++ edges_at_rank s.test held n) (up_to_same s held run n (omega (arith, few)) (λ rank lt. same rank (omega (arith, lt))))
    ∙ ap (λ (list : List (ℕ × ℕ)). edges_up_to s run n ++ list) (same_edges s.test held run n below (same n (omega arith)))
    ∙ sym (up_to_more s run n below))

-- those of fewer loads stand in front
up_to_front : (s : StaticGraph) (run : List ℕ) (rank more : ℕ) → rank + more ≤ load_count s.test → (rest : List (ℕ × ℕ)) × (edges_up_to s run (rank + more) ≡ edges_up_to s run rank ++ rest)
up_to_front s run rank zero few =
    let none : rank + 0 ≡ rank = omega arith in
    ([], ap (λ (k : ℕ). edges_up_to s run k) none ∙ sym (append-nil (edges_up_to s run rank)))
up_to_front s run rank (suc more) few =
    let h = up_to_front s run rank more (omega (arith, few)) in
    let next : rank + suc more ≡ (rank + more) + 1 = omega arith in (
      h.0 ++ edges_at_rank s.test run (rank + more),
      ap (λ (k : ℕ). edges_up_to s run k) next
          ∙ up_to_more s run (rank + more) (omega (arith, few))
          ∙ ap (λ (list : List (ℕ × ℕ)). list ++ edges_at_rank s.test run (rank + more)) h.1
          ∙ append_assoc (edges_up_to s run rank) h.0 (edges_at_rank s.test run (rank + more)),
    )

front_of : (s : StaticGraph) (run : List ℕ) (rank count : ℕ) → rank ≤ count → count ≤ load_count s.test → (rest : List (ℕ × ℕ)) × (edges_up_to s run count ≡ edges_up_to s run rank ++ rest)
front_of s run rank count le few =
    let more = up_to_front s run rank (count - rank) (omega (arith, le, few)) in
    let same : rank + (count - rank) ≡ count = omega (arith, le) in
    (more.0, ap (λ (k : ℕ). edges_up_to s run k) (sym same) ∙ more.1)

-- how many edges there are
up_to_few : (s : StaticGraph) (run : List ℕ) (count : ℕ) → count ≤ load_count s.test → length (edges_up_to s run count) ≤ length s.graph.edges + count * load_edge_room s.test
up_to_few s run zero few = let both = length-append s.graph.edges [] in omega (arith, both)
up_to_few s run (suc n) few =
    let next : n + 1 ≡ suc n = omega arith in
    let below : n < load_count s.test = omega (arith, few) in
    let before = up_to_few s run n (omega (arith, few)) in
    let one = load_few s.test run (get_or (load_nodes s.test) n 0) in
    let both = ap (length {A = ℕ × ℕ}) (up_to_more s run n below) ∙ length-append (edges_up_to s run n) (edges_at_rank s.test run n) in
    let each : suc n * load_edge_room s.test ≡ n * load_edge_room s.test + load_edge_room s.test = grind arith in
    let now : length (edges_up_to s run (n + 1)) ≤ length s.graph.edges + suc n * load_edge_room s.test = omega (arith, before, one, both, each) in
    subst (λ (k : ℕ). length (edges_up_to s run k) ≤ length s.graph.edges + suc n * load_edge_room s.test) next now

le_times : (m n k : ℕ) → m ≤ n → m * k ≤ n * k
le_times m n k le = let more : n * k ≡ m * k + (n - m) * k = grind arith in omega (arith, more)

module _ (s : StaticGraph) (run : List ℕ) (count : ℕ) (starts : List ℕ) (g : Digraph) (h : HoldsLoads s run count starts g) where
  -- where the edges of a load begin
  pub start_fits : (rank : ℕ) → rank < count → get_or starts rank 0 ≤ length g.edges
  start_fits rank lt =
      let at = h.at rank lt in
      let front = front_of s run rank count (omega (arith, lt)) h.few in
      let whole = ap (length {A = ℕ × ℕ}) (h.edges ∙ front.1) in
      let both = length-append (edges_up_to s run rank) front.0 in
      omega (arith, at, whole, both)

  -- the static edges stand in front
  pub static_front : take (length s.graph.edges) g.edges ≡ s.graph.edges
  static_front =
      ap (take (length s.graph.edges)) h.edges
      ∙ take_at s.graph.edges (flat_map (edges_of_load s.test run) (take count (load_nodes s.test))) (length s.graph.edges) refl

  -- and they alone are the edges of no load
  pub holds_none : (now : Digraph) → now ≡ record g { edges = s.graph.edges } → HoldsLoads s run 0 starts now
  holds_none now e = subst (HoldsLoads s run 0 starts) (sym e) (record {
    few = omega arith;
    nodes = h.nodes;
    room = h.room;
    edges = sym (append-nil s.graph.edges);
    at = λ rank lt. absurd (omega (arith, lt));
  })

  -- the edges of fewer loads, as far as another run has the same values
  module _ (other : List ℕ) (loads : ℕ) (same : (rank : ℕ) → rank < loads → get_or run rank 0 ≡ get_or other rank 0) where
    starts_same : loads ≤ count → (rank : ℕ) → rank < loads → get_or starts rank 0 ≡ length (edges_up_to s other rank)
    starts_same le rank lt =
        let few = h.few in
        h.at rank (omega (arith, lt, le))
        ∙ ap (length {A = ℕ × ℕ}) (up_to_same s run other rank (omega (arith, lt, le, few)) (λ k below. same k (omega (arith, below, lt))))

    pub holds_fewer : loads < count → (now : Digraph) → now ≡ record g { edges = take (get_or starts loads 0) g.edges } → HoldsLoads s other loads starts now
    holds_fewer lt now e =
        let few = h.few in
        let front = front_of s run loads count (omega (arith, lt)) h.few in
        let taken : take (get_or starts loads 0) g.edges ≡ edges_up_to s other loads =
        ap (take (get_or starts loads 0)) (h.edges ∙ front.1)
        ∙ take_at (edges_up_to s run loads) front.0 (get_or starts loads 0) (sym (h.at loads lt))
        ∙ up_to_same s run other loads (omega (arith, lt, few)) same in
        subst (HoldsLoads s other loads starts) (sym e) (record { few = omega (arith, lt, few); nodes = h.nodes; room = h.room; edges = taken; at = starts_same (omega (arith, lt)) })

    pub holds_same : loads ≡ count → HoldsLoads s other count starts g
    holds_same all =
        let le : loads ≤ count = omega (arith, all) in
        record {
          few = h.few;
          nodes = h.nodes;
          room = h.room;
          edges = h.edges ∙ up_to_same s run other count h.few (λ rank lt. same rank (omega (arith, lt, all)));
          at = λ rank lt. starts_same le rank (omega (arith, lt, all));
        }

  -- there is room for one load more
  pub more_fits : count < load_count s.test → (edges : List (ℕ × ℕ)) → edges ≡ edges_at_rank s.test run count → length g.edges + length edges ≤ g.room
  more_fits below edges e =
      let count_now = ap (length {A = ℕ × ℕ}) h.edges in
      let added = ap (length {A = ℕ × ℕ}) e in
      let few = up_to_few s run (count + 1) (omega (arith, below)) in
      let both = ap (length {A = ℕ × ℕ}) (up_to_more s run count below) ∙ length-append (edges_up_to s run count) (edges_at_rank s.test run count) in
      let all = le_times (count + 1) (load_count s.test) (load_edge_room s.test) (omega (arith, below)) in
      let room = h.room in
      omega (arith, count_now, added, few, both, all, room)

  pub holds_more : count < load_count s.test → (edges : List (ℕ × ℕ)) → edges ≡ edges_at_rank s.test run count → count < length starts → (new : List ℕ) → new ≡ set starts count (length g.edges) →
      (now : Digraph) → now ≡ record g { edges = g.edges ++ edges } → HoldsLoads s run (count + 1) new now
  holds_more below edges e fits new set_is now is =
      let whole : g.edges ++ edges ≡ edges_up_to s run (count + 1) = ap (λ (list : List (ℕ × ℕ)). list ++ edges) h.edges ∙ ap (λ (list : List (ℕ × ℕ)). edges_up_to s run count ++ list) e ∙ sym (up_to_more s run count below) in
      subst (HoldsLoads s run (count + 1) new) (sym is) (record {
        few = omega (arith, below);
        nodes = h.nodes;
        room = h.room;
        edges = whole;
        at = λ rank lt. elim (cases_eq rank count) [
          | inl same ↦
              ap (λ (list : List ℕ). get_or list rank 0) set_is ∙ get_or-set_at starts count rank (length g.edges) 0 same fits
              ∙ ap (length {A = ℕ × ℕ}) h.edges ∙ ap (λ (k : ℕ). length (edges_up_to s run k)) (sym same)
          | inr other ↦ ap (λ (list : List ℕ). get_or list rank 0) set_is ∙ get_or-set_other starts count rank (length g.edges) 0 other ∙ h.at rank (omega (arith, lt, other))
        ];
      })
