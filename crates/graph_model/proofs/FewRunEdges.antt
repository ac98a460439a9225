-- The static edges and those of the loads reach each edge of the run.
use Rattle.std.proofs.Common.{◌≡◌, ℕ, ◌<◌, ◌≤◌, List, [], ◌∷◌, ◌++◌, Bool, true, false, cond, ◌&&◌, length, Contains, inl, inr, arith, refl, sym, ap, subst, ◌∙◌}
use Rattle.std.specs.Prelude.{Option, Some, None, find, slice_get, ◌==◌, nat_lt}
use Rattle.std.specs.List.{flat_map}
use Rattle.std.specs.Option.{option_map}
use Rattle.std.proofs.lemmas.Bool.{cases_lt, eqb-true, eq-eqb}
use Rattle.std.proofs.lemmas.Bool.Decides.{nat_tests}
use Rattle.std.proofs.lemmas.List.Elements.{Contains-append_left, Contains-append_right, Contains-append_cases}
use Rattle.orders.specs.Orders.{nodes_below}
use Rattle.orders.specs.Paths.{Reach}
use Rattle.orders.specs.Reductions.{IsAmong, IsReaching, IsWithin}
use Rattle.orders.proofs.Below.{has-below}
use Rattle.orders.proofs.FewEdges.{reach_append, reach_by_all}
use Rattle.orders.proofs.Members.{Contains-head, Contains-tail, Contains-flat_map, Contains-flat_map_back, Contains-filter_back}
use Rattle.test_lang.specs.declared.op.Op.{Op}
use Rattle.test_lang.specs.declared.op.Action.{Action}
use Rattle.test_lang.specs.declared.op.Action.TheVariants.{Load, Store, Fence}
use Rattle.test_lang.specs.Actions.{op_of}
use Rattle.test_lang.specs.declared.op.MemModel.{MemModel}
use Rattle.test_lang.specs.Program.{Program, nodes, actions, all_nodes, op_count, at_node, passes, passes_after}
use Rattle.test_lang.specs.Values.{is_load, is_store, same_word, is_load_at, is_store_at, same_thread, one_word, value_of, load_nodes}
use Rattle.test_lang.specs.Kept.{keeps, is_kept}
use Rattle.test_lang.specs.Runs.{value_read, writes_for, own_earlier, base_store, IsInside}
use Rattle.test_lang.specs.Edges.{Edge}
use Rattle.test_lang.specs.Edges.RunEdge.{kept, reads_from, before_later, before_any, written_before}
use Rattle.test_lang.proofs.CandidateKinds.{IsCandidate, inside_candidate, load_nodes-has}
use Rattle.test_lang.proofs.CandidateKinds.IsCandidate.{initial, own, other}
use Rattle.test_lang.proofs.ActionNodes.{node_of, node-action, node-is}
use Rattle.test_lang.proofs.BaseStores.{base_store_own}
use Rattle.test_lang.proofs.EdgeTests.{at_node-below, edge-nodes}
use Rattle.test_lang.proofs.Ranks.{one_store}
use Rattle.test_lang.proofs.Threads.{thread_at-stands}
use Rattle.digraph.specs.Digraph.{HasEdge}
use Rattle.graph_model.specs.FewKept.{edge_from, edge_to}
use Rattle.graph_model.specs.LoadEdges.{store_of, next_store, edges_by_store, edges_of_load}
use Rattle.graph_model.specs.StaticGraph.{StaticGraph, IsStaticGraph, few_run_edges}
use Rattle.graph_model.proofs.Beside.{Is, kept_pair, kept_of_pair, both, both_true}
use Rattle.graph_model.proofs.Found.{find_below-some, find_below-found}
use Rattle.graph_model.proofs.LoadEdges.{next_store-some, first-some, IsNextStore, IsStoreFor, store_of-value, edges_of_initial, edges_of_value, load_among}

-- nodes by their kinds

load_from : (found : Option (ℕ × Action)) → passes (λ node. is_load node.1) (option_map node_of found) ≡ true → (t : ℕ) × (x : ℕ) × (found ≡ Some (t, Load x))
load_from None h = absurd cc
load_from (Some (t, Load x)) h = (t, x, refl)
load_from (Some (t, Store x)) h = absurd cc
load_from (Some (t, Fence kind)) h = absurd cc

pub load_is : (p : Program) (n : ℕ) → is_load_at p n ≡ true → (t : ℕ) × (x : ℕ) × Is p n t (Load x)
load_is p n h = load_from (slice_get (actions p) n) (sym (ap (passes (λ node. is_load node.1)) (node-action p n)) ∙ h)

store_from : (found : Option (ℕ × Action)) → passes (λ node. is_store node.1) (option_map node_of found) ≡ true → (t : ℕ) × (x : ℕ) × (found ≡ Some (t, Store x))
store_from None h = absurd cc
store_from (Some (t, Load x)) h = absurd cc
store_from (Some (t, Store x)) h = (t, x, refl)
store_from (Some (t, Fence kind)) h = absurd cc

pub store_is : (p : Program) (n : ℕ) → is_store_at p n ≡ true → (t : ℕ) × (x : ℕ) × Is p n t (Store x)
store_is p n h = store_from (slice_get (actions p) n) (sym (ap (passes (λ node. is_store node.1)) (node-action p n)) ∙ h)

threads_are : (p : Program) (a b t u : ℕ) (x y : Action) → Is p a t x → Is p b u y → same_thread p a b ≡ (t == u)
threads_are p a b t u x y e f =
    ap (λ (o : Option (ℕ × Op)). passes_after (λ first second. first.0 == second.0) o (slice_get (nodes p) b)) (node-is p a t x e) ∙ ap (passes (λ second. t == second.0)) (node-is p b u y f)

pub words_are : (p : Program) (a b t u : ℕ) (x y : Action) → Is p a t x → Is p b u y → one_word p a b ≡ same_word (op_of x) (op_of y)
words_are p a b t u x y e f =
    ap (λ (o : Option (ℕ × Op)). passes_after (λ first second. same_word first.1 second.1) o (slice_get (nodes p) b)) (node-is p a t x e) ∙ ap (passes (λ second. same_word (op_of x) second.1)) (node-is p b u y f)

-- pairs of one word that each model keeps

stores_keep : (m : MemModel) (x y : ℕ) → x ≡ y → keeps m (Store x) (Store y) ≡ true
stores_keep m x y e = grind (arith, nat_tests)

load_store_keep : (m : MemModel) (x y : ℕ) → x ≡ y → keeps m (Load x) (Store y) ≡ true
load_store_keep m x y e = grind (arith, nat_tests)

stores_kept : (m : MemModel) (p : Program) (a b : ℕ) → a < b → is_store_at p a ≡ true → is_store_at p b ≡ true → same_thread p a b ≡ true → one_word p a b ≡ true → is_kept m p a b ≡ true
stores_kept m p a b lt h k beside word =
    let s = store_is p a h in
    let r = store_is p b k in
    let thread : s.0 ≡ r.0 = eqb-true s.0 r.0 (sym (threads_are p a b s.0 r.0 (Store s.1) (Store r.1) s.2 r.2) ∙ beside) in
    let same : s.1 ≡ r.1 = eqb-true s.1 r.1 (sym (words_are p a b s.0 r.0 (Store s.1) (Store r.1) s.2 r.2) ∙ word) in
    kept_of_pair m p a b (record {
      earlier = lt;
      thread = s.0;
      first = Store s.1;
      second = Store r.1;
      first_is = s.2;
      second_is = r.2 ∙ ap (λ (t : ℕ). Some (t, Store r.1)) (sym thread);
      keeps = stores_keep m s.1 r.1 same;
    })

-- the edges of a load that gives a store of another thread
edges_of_store : (p : Program) (run : List ℕ) (load store : ℕ) → is_store_at p store ≡ true → value_read p run load ≡ value_of p store → same_thread p store load ≡ false →
    edges_of_load p run load ≡ (store, load) ∷ (edge_to load (next_store p store) ++ edge_from store (base_store p load))
edges_of_store p run load store h value apart =
    edges_of_value p run load (λ zero. omega (arith, zero, value))
    ∙ ap (λ (v : ℕ). edges_by_store p load (store_of p v)) value
    ∙ ap (edges_by_store p load) (store_of-value p store h)
    ∙ ap (λ (b : Bool). cond b [] ((store, load) ∷ (edge_to load (next_store p store) ++ edge_from store (base_store p load)))) apart

has_edge_to : (n : ℕ) (found : Option ℕ) (k : ℕ) → found ≡ Some k → Contains (edge_to n found) (n, k)
has_edge_to n found k e = subst (λ (o : Option ℕ). Contains (edge_to n o) (n, k)) (sym e) (Contains-head {X = ℕ × ℕ} (n, k) [] (n, k) refl)

has_edge_from : (n : ℕ) (found : Option ℕ) (k : ℕ) → found ≡ Some k → Contains (edge_from n found) (k, n)
has_edge_from n found k e = subst (λ (o : Option ℕ). Contains (edge_from n o) (k, n)) (sym e) (Contains-head {X = ℕ × ℕ} (k, n) [] (k, n) refl)

lt_true : (a b : ℕ) → a < b → nat_lt a b ≡ true
lt_true a b h = grind (arith, nat_tests)

-- a later store leads to a first next store
next_found : (p : Program) (store b : ℕ) → store < b → is_store_at p b ≡ true → same_thread p store b ≡ true → one_word p store b ≡ true → (n : ℕ) × (next_store p store ≡ Some n) × (n ≤ b)
next_found p store b lt h beside word =
    find_below-found (λ n. nat_lt store n && (is_store_at p n && (same_thread p store n && one_word p store n))) (op_count p) b (at_node-below (λ node. is_store node.1) p b h)
    (both_true (nat_lt store b) (is_store_at p b && (same_thread p store b && one_word p store b)) (lt_true store b lt)
    (both_true (is_store_at p b) (same_thread p store b && one_word p store b) h (both_true (same_thread p store b) (one_word p store b) beside word)))

first_found : (p : Program) (load b t x : ℕ) → Is p b t (Store x) → is_store_at p b ≡ true → one_word p load b ≡ true → (n : ℕ) × (find (λ n. writes_for p load n && at_node (λ node. node.0 == t) p n) (all_nodes p) ≡ Some n) × (n ≤ b)
first_found p load b t x is h word =
    find_below-found (λ n. writes_for p load n && at_node (λ node. node.0 == t) p n) (op_count p) b (at_node-below (λ node. is_store node.1) p b h)
    (both_true (writes_for p load b) (at_node (λ node. node.0 == t) p b) (both_true (is_store_at p b) (one_word p load b) h word)
    (ap (passes (λ node. node.0 == t)) (node-is p b t (Store x) is) ∙ eq-eqb t t refl))

-- two stores that follow one store in its thread, on its word
both_later : (p : Program) (store a b : ℕ) → is_store_at p store ≡ true → IsNextStore p store a → is_store_at p b ≡ true → same_thread p store b ≡ true → one_word p store b ≡ true →
    (same_thread p a b ≡ true) × (one_word p a b ≡ true)
both_later p store a b h n k beside word =
    let s = store_is p store h in
    let x = store_is p a n.is_store in
    let y = store_is p b k in
    let t = eqb-true s.0 x.0 (sym (threads_are p store a s.0 x.0 (Store s.1) (Store x.1) s.2 x.2) ∙ n.beside) in
    let u = eqb-true s.0 y.0 (sym (threads_are p store b s.0 y.0 (Store s.1) (Store y.1) s.2 y.2) ∙ beside) in
    let w = eqb-true s.1 x.1 (sym (words_are p store a s.0 x.0 (Store s.1) (Store x.1) s.2 x.2) ∙ n.word) in
    let v = eqb-true s.1 y.1 (sym (words_are p store b s.0 y.0 (Store s.1) (Store y.1) s.2 y.2) ∙ word) in (
      threads_are p a b x.0 y.0 (Store x.1) (Store y.1) x.2 y.2 ∙ eq-eqb x.0 y.0 (sym t ∙ u),
      words_are p a b x.0 y.0 (Store x.1) (Store y.1) x.2 y.2 ∙ eq-eqb x.1 y.1 (sym w ∙ v),
    )

-- two stores to a load's word in one thread
both_for : (p : Program) (load a b t x : ℕ) → is_load_at p load ≡ true → IsStoreFor p load a → at_node (λ node. node.0 == t) p a ≡ true → Is p b t (Store x) → one_word p load b ≡ true →
    (same_thread p a b ≡ true) × (one_word p a b ≡ true)
both_for p load a b t x h n in_thread is word =
    let l = load_is p load h in
    let s = store_is p a n.is_store in
    let u : s.0 ≡ t = eqb-true s.0 t (sym (ap (passes (λ node. node.0 == t)) (node-is p a s.0 (Store s.1) s.2)) ∙ in_thread) in
    let w = eqb-true l.1 s.1 (sym (words_are p load a l.0 s.0 (Load l.1) (Store s.1) l.2 s.2) ∙ n.word) in
    let v = eqb-true l.1 x (sym (words_are p load b l.0 t (Load l.1) (Store x) l.2 is) ∙ word) in (
      threads_are p a b s.0 t (Store s.1) (Store x) s.2 is ∙ eq-eqb s.0 t u,
      words_are p a b s.0 t (Store s.1) (Store x) s.2 is ∙ eq-eqb s.1 x (sym w ∙ v),
    )

-- a load that gives a store of its own thread comes before the later ones

not_both : (found : Option (ℕ × Action)) (t u x y : ℕ) → found ≡ Some (t, Load x) → found ≡ Some (u, Store y) → ⊥
not_both found t u x y e f = grind (arith, nat_tests)

store_of_writes : (p : Program) (load w : ℕ) → own_earlier p load w ≡ true → (is_store_at p w ≡ true) × (one_word p load w ≡ true)
store_of_writes p load w h = both (is_store_at p w) (one_word p load w) (both (writes_for p load w) (same_thread p load w && nat_lt w load) h).0

module _ (m : MemModel) (p : Program) (run : List ℕ) (a store b : ℕ) (load : is_load_at p a ≡ true) (h : is_store_at p store ≡ true) (value : value_read p run a ≡ value_of p store)
    (k : is_store_at p b ≡ true) (beside : same_thread p store b ≡ true) (lt : store < b) (word : one_word p store b ≡ true) (own_thread : same_thread p store a ≡ true) where
  -- the store is the last one to the load's word before it
  after_last : one_word p a store ≡ true → ((n : ℕ) → store < n → own_earlier p a n ≡ false) → is_kept m p a b ≡ true
  after_last for_load last =
      let l = load_is p a load in
      let s = store_is p store h in
      let r = store_is p b k in
      let t : s.0 ≡ l.0 = eqb-true s.0 l.0 (sym (threads_are p store a s.0 l.0 (Store s.1) (Load l.1) s.2 l.2) ∙ own_thread) in
      let u : s.0 ≡ r.0 = eqb-true s.0 r.0 (sym (threads_are p store b s.0 r.0 (Store s.1) (Store r.1) s.2 r.2) ∙ beside) in
      let v : l.1 ≡ s.1 = eqb-true l.1 s.1 (sym (words_are p a store l.0 s.0 (Load l.1) (Store s.1) l.2 s.2) ∙ for_load) in
      let w : s.1 ≡ r.1 = eqb-true s.1 r.1 (sym (words_are p store b s.0 r.0 (Store s.1) (Store r.1) s.2 r.2) ∙ word) in
      let thread : l.0 ≡ r.0 = sym t ∙ u in
      elim (cases_lt a b) [
        | inl before ↦ kept_of_pair m p a b (record {
          earlier = before;
          thread = l.0;
          first = Load l.1;
          second = Store r.1;
          first_is = l.2;
          second_is = r.2 ∙ ap (λ (t : ℕ). Some (t, Store r.1)) (sym thread);
          keeps = load_store_keep m l.1 r.1 (v ∙ w);
        })
        | inr behind ↦ absurd (elim (cases_lt b a) [
          | inl after ↦
              let earlier : own_earlier p a b ≡ true =
              both_true (writes_for p a b) (same_thread p a b && nat_lt b a)
              (both_true (is_store_at p b) (one_word p a b) k (words_are p a b l.0 r.0 (Load l.1) (Store r.1) l.2 r.2 ∙ eq-eqb l.1 r.1 (v ∙ w)))
              (both_true (same_thread p a b) (nat_lt b a) (threads_are p a b l.0 r.0 (Load l.1) (Store r.1) l.2 r.2 ∙ eq-eqb l.0 r.0 thread) (lt_true b a after)) in
              let no = last b lt in
              cc
          | inr not_after ↦
              let same : b ≡ a = omega (arith, behind, not_after) in
              not_both (slice_get (actions p) a) l.0 r.0 l.1 r.1 l.2 (subst (λ (n : ℕ). Is p n r.0 (Store r.1)) same r.2)
        ])
      ]

  by_candidate : IsCandidate p a (value_read p run a) → is_kept m p a b ≡ true
  by_candidate (initial nothing none) = absurd (omega (arith, nothing, value))
  by_candidate (own w earlier e last) =
      let is = store_of_writes p a w earlier in
      let same : w ≡ store = one_store p w store is.0 h (e ∙ value) in
      after_last (subst (λ (n : ℕ). one_word p a n ≡ true) same is.1) (subst (λ (n : ℕ). (j : ℕ) → n < j → own_earlier p a j ≡ false) same last)
  by_candidate (other w writes apart e) =
      let is = both (is_store_at p w) (one_word p a w) writes in
      let same : w ≡ store = one_store p w store is.0 h (e ∙ value) in
      let l = load_is p a load in
      let s = store_is p store h in
      let t : s.0 ≡ l.0 = eqb-true s.0 l.0 (sym (threads_are p store a s.0 l.0 (Store s.1) (Load l.1) s.2 l.2) ∙ own_thread) in
      let joined : same_thread p a store ≡ true = threads_are p a store l.0 s.0 (Load l.1) (Store s.1) l.2 s.2 ∙ eq-eqb l.0 s.0 (sym t) in
      let apart' : same_thread p a store ≡ false = subst (λ (n : ℕ). same_thread p a n ≡ false) same apart in
      absurd cc

own_kept : (m : MemModel) (p : Program) (run : List ℕ) (a store b : ℕ) → IsInside p run → is_load_at p a ≡ true → is_store_at p store ≡ true → value_read p run a ≡ value_of p store →
    is_store_at p b ≡ true → same_thread p store b ≡ true → store < b → one_word p store b ≡ true → same_thread p store a ≡ true → is_kept m p a b ≡ true
own_kept m p run a store b inside load h value k beside lt word own_thread =
    by_candidate m p run a store b load h value k beside lt word own_thread (inside_candidate p run a inside load)

module _ (s : StaticGraph) (run : List ℕ) (sound : IsStaticGraph s) (inside : IsInside s.test run) where
  static_reaches : (a b : ℕ) → is_kept s.model s.test a b ≡ true → Reach (HasEdge (few_run_edges s run)) a b
  static_reaches a b h =
      reach_by_all (HasEdge (few_run_edges s run)) (HasEdge s.graph.edges)
      (λ x y e. Contains-append_left s.graph.edges (flat_map (edges_of_load s.test run) (load_nodes s.test)) (x, y) e) a b ((sound.reach a b).0 ([], h))

  load_edge : (load a b : ℕ) → is_load_at s.test load ≡ true → Contains (edges_of_load s.test run load) (a, b) → HasEdge (few_run_edges s run) a b
  load_edge load a b h e =
      Contains-append_right s.graph.edges (flat_map (edges_of_load s.test run) (load_nodes s.test)) (a, b)
      (Contains-flat_map (edges_of_load s.test run) (load_nodes s.test) load (a, b) (load_nodes-has s.test load h) e)

  -- to a store, or by way of it to a later one
  by_store : (a n b : ℕ) → HasEdge (few_run_edges s run) a n → n ≤ b → (n < b → is_kept s.model s.test n b ≡ true) → Reach (HasEdge (few_run_edges s run)) a b
  by_store a n b edge le rest = elim (cases_lt n b) [
    | inl lt ↦ reach_append (HasEdge (few_run_edges s run)) a n b ([], edge) (static_reaches n b (rest lt))
    | inr ge ↦ let same : n ≡ b = omega (arith, le, ge) in ([], subst (λ (k : ℕ). HasEdge (few_run_edges s run) a k) same edge)
  ]

  later_reached : (a store b : ℕ) → is_load_at s.test a ≡ true → is_store_at s.test store ≡ true → value_read s.test run a ≡ value_of s.test store → is_store_at s.test b ≡ true →
      same_thread s.test store b ≡ true → store < b → one_word s.test store b ≡ true → (apart : Bool) → same_thread s.test store a ≡ apart → Reach (HasEdge (few_run_edges s run)) a b
  later_reached a store b load h value k beside lt word true e = static_reaches a b (own_kept s.model s.test run a store b inside load h value k beside lt word e)
  later_reached a store b load h value k beside lt word false e =
      let n = next_found s.test store b lt k beside word in
      let edges = edges_of_store s.test run a store h value e in
      let edge : Contains (edges_of_load s.test run a) (a, n.0) =
      subst (λ (x : List (ℕ × ℕ)). Contains x (a, n.0)) (sym edges) (Contains-tail {X = ℕ × ℕ} (store, a) (edge_to a (next_store s.test store) ++ edge_from store (base_store s.test a)) (a, n.0)
      (Contains-append_left (edge_to a (next_store s.test store)) (edge_from store (base_store s.test a)) (a, n.0) (has_edge_to a (next_store s.test store) n.0 n.1))) in
      let next = next_store-some s.test store n.0 n.1 in
      by_store a n.0 b (load_edge a a n.0 load edge) n.2
      (λ before. let same = both_later s.test store n.0 b h next k beside word in stores_kept s.model s.test n.0 b before next.is_store k same.0 same.1)

  any_reached : (a b : ℕ) → is_load_at s.test a ≡ true → value_read s.test run a ≡ 0 → is_store_at s.test b ≡ true → one_word s.test a b ≡ true → Reach (HasEdge (few_run_edges s run)) a b
  any_reached a b load value k word =
      let is = store_is s.test b k in
      let t = is.0 in
      let f = first_found s.test a b t is.1 is.2 k word in
      let found = find_below-some (λ n. writes_for s.test a n && at_node (λ node. node.0 == t) s.test n) (op_count s.test) f.0 f.1 in
      let in_thread = (both (writes_for s.test a f.0) (at_node (λ node. node.0 == t) s.test f.0) found.passes).1 in
      let first = first-some s.test a t f.0 f.1 in
      let range : t < length s.test.threads = (thread_at-stands s.test b t (ap (option_map (λ (node : ℕ × Op). node.0)) (node-is s.test b t (Store is.1) is.2))).in_range in
      let edge : Contains (edges_of_load s.test run a) (a, f.0) =
      subst (λ (x : List (ℕ × ℕ)). Contains x (a, f.0)) (sym (edges_of_initial s.test run a value))
      (Contains-flat_map (λ thread. edge_to a (find (λ n. writes_for s.test a n && at_node (λ node. node.0 == thread) s.test n) (all_nodes s.test))) (nodes_below (length s.test.threads)) t (a, f.0) (has-below (length s.test.threads) t range)
      (has_edge_to a (find (λ n. writes_for s.test a n && at_node (λ node. node.0 == t) s.test n) (all_nodes s.test)) f.0 f.1)) in
      by_store a f.0 b (load_edge a a f.0 load edge) f.2
      (λ before. let same = both_for s.test a f.0 b t is.1 load first in_thread is.2 word in stores_kept s.model s.test f.0 b before first.is_store k same.0 same.1)

  pub few_run_edges-reaching : IsReaching (HasEdge (few_run_edges s run)) (Edge s.model s.test run)
  few_run_edges-reaching a b (kept h) = static_reaches a b h
  few_run_edges-reaching a b (reads_from store load value apart) =
      let edges = edges_of_store s.test run b a store value apart in
      ([], load_edge b a b load (subst (λ (x : List (ℕ × ℕ)). Contains x (a, b)) (sym edges) (Contains-head {X = ℕ × ℕ} (a, b) (edge_to b (next_store s.test a) ++ edge_from a (base_store s.test b)) (a, b) refl)))
  few_run_edges-reaching a b (before_later w load store value later beside lt word) = later_reached a w b load store value later beside lt word (same_thread s.test w a) refl
  few_run_edges-reaching a b (before_any load value store word) = any_reached a b load value store word
  few_run_edges-reaching a b (written_before l store load value apart base) =
      let edges = edges_of_store s.test run l b store value apart in (
        [],
        load_edge l a b load (subst (λ (x : List (ℕ × ℕ)). Contains x (a, b)) (sym edges)
            (Contains-tail {X = ℕ × ℕ} (b, l) (edge_to l (next_store s.test b) ++ edge_from b (base_store s.test l)) (a, b)
            (Contains-append_right (edge_to l (next_store s.test b)) (edge_from b (base_store s.test l)) (a, b) (has_edge_from b (base_store s.test l) a base)))),
      )

  pub few_run_edges-among : IsAmong (HasEdge (few_run_edges s run)) (Edge s.model s.test run)
  few_run_edges-among a b h = elim (Contains-append_cases s.graph.edges (flat_map (edges_of_load s.test run) (load_nodes s.test)) (a, b) h) [
    | inl static ↦ kept (sound.kept a b static)
    | inr more ↦
        let load = Contains-flat_map_back (edges_of_load s.test run) (load_nodes s.test) (a, b) more in
        load_among s.model s.test run load.0 (Contains-filter_back (is_load_at s.test) (all_nodes s.test) load.0 load.1).1 a b load.2
  ]

-- all edges lead between nodes
pub edges_within : (m : MemModel) (p : Program) (run : List ℕ) → IsWithin (Edge m p run) (all_nodes p)
edges_within m p run a b h = let below = edge-nodes m p run a b h in (has-below (op_count p) a below.0, has-below (op_count p) b below.1)

-- a node is no load and store at once
pub no_load_and_store : (p : Program) (n : ℕ) → is_load_at p n ≡ true → is_store_at p n ≡ true → ⊥
no_load_and_store p n h k =
    let l = load_is p n h in
    let s = store_is p n k in
    not_both (slice_get (actions p) n) l.0 s.0 l.1 s.1 l.2 s.2

-- no edge leads from a node to itself
pub no_loop : (m : MemModel) (p : Program) (run : List ℕ) (a : ℕ) → Edge m p run a a → ⊥
no_loop m p run a (kept h) = let lt = (kept_pair m p a a h).earlier in omega (arith, lt)
no_loop m p run a (reads_from store load value apart) = no_load_and_store p a load store
no_loop m p run a (before_later w load store value later beside lt word) = no_load_and_store p a load later
no_loop m p run a (before_any load value store word) = no_load_and_store p a load store
no_loop m p run a (written_before l store load value apart base) =
    let own = both (writes_for p l a) (same_thread p l a && nat_lt a l) (base_store_own p l a base) in
    let joined : same_thread p l a ≡ true = (both (same_thread p l a) (nat_lt a l) own.1).0 in
    let x = load_is p l load in
    let y = store_is p a store in
    let same : x.0 ≡ y.0 = eqb-true x.0 y.0 (sym (threads_are p l a x.0 y.0 (Load x.1) (Store y.1) x.2 y.2) ∙ joined) in
    let back : same_thread p a l ≡ true = threads_are p a l y.0 x.0 (Store y.1) (Load x.1) y.2 x.2 ∙ eq-eqb y.0 x.0 (sym same) in
    absurd cc
