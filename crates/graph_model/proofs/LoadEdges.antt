-- The few edges of a load are edges of the run.
use Rattle.std.proofs.Common.{◌≡◌, ℕ, ◌<◌, List, [], ◌∷◌, ◌++◌, Bool, true, false, cond, ◌&&◌, length, Contains, inl, inr, arith, refl, sym, ap, subst}
use Rattle.std.specs.Prelude.{find, Option, Some, None, ◌==◌, nat_lt}
use Rattle.std.proofs.lemmas.Bool.{cases_eq, eqb-true, eq-eqb, ne_eqb}
use Rattle.std.proofs.lemmas.Bool.Decides.{nat_tests}
use Rattle.std.proofs.lemmas.List.Elements.{Contains-append_cases}
use Rattle.orders.specs.Orders.{nodes_below}
use Rattle.orders.proofs.Members.{Contains-nil, Contains-cons_cases, Contains-flat_map_back}
use Rattle.test_lang.specs.declared.op.MemModel.{MemModel}
use Rattle.test_lang.specs.Program.{Program, all_nodes, op_count, at_node}
use Rattle.test_lang.specs.Values.{is_store, is_load_at, is_store_at, same_thread, one_word, value_of}
use Rattle.test_lang.specs.Runs.{value_read, writes_for, base_store}
use Rattle.test_lang.specs.Edges.{Edge}
use Rattle.test_lang.specs.Edges.RunEdge.{reads_from, before_later, before_any, written_before}
use Rattle.test_lang.proofs.EdgeTests.{at_node-below}
use Rattle.test_lang.proofs.Ranks.{one_store}
use Rattle.graph_model.specs.FewKept.{edge_from, edge_to}
use Rattle.graph_model.specs.LoadEdges.{store_of, next_store, edges_to_first_stores, edges_by_store, edges_of_load}
use Rattle.graph_model.proofs.Beside.{both, both_true}
use Rattle.graph_model.proofs.Chains.{edge_from_is, edge_to_is}
use Rattle.graph_model.proofs.Found.{find_below-some, find_below-is}

-- what the searches find

pub record IsNextStore (p : Program) (store next : ℕ) : Type 0 where
  pub later : store < next
  pub is_store : is_store_at p next ≡ true
  pub beside : same_thread p store next ≡ true
  pub word : one_word p store next ≡ true

lt_true : (a b : ℕ) → nat_lt a b ≡ true → a < b
lt_true a b h = grind (arith, nat_tests)

pub next_store-some : (p : Program) (store next : ℕ) → next_store p store ≡ Some next → IsNextStore p store next
next_store-some p store next e =
    let f = find_below-some (λ n. nat_lt store n && (is_store_at p n && (same_thread p store n && one_word p store n))) (op_count p) next e in
    let a = both (nat_lt store next) (is_store_at p next && (same_thread p store next && one_word p store next)) f.passes in
    let b = both (is_store_at p next) (same_thread p store next && one_word p store next) a.1 in
    let c = both (same_thread p store next) (one_word p store next) b.1 in
    record { later = lt_true store next a.0; is_store = b.0; beside = c.0; word = c.1 }

pub record IsStoreFor (p : Program) (load store : ℕ) : Type 0 where
  pub is_store : is_store_at p store ≡ true
  pub word : one_word p load store ≡ true

pub first-some : (p : Program) (load thread first : ℕ) → find (λ n. writes_for p load n && at_node (λ node. node.0 == thread) p n) (all_nodes p) ≡ Some first → IsStoreFor p load first
first-some p load thread first e =
    let f = find_below-some (λ n. writes_for p load n && at_node (λ node. node.0 == thread) p n) (op_count p) first e in
    let a = both (writes_for p load first) (at_node (λ node. node.0 == thread) p first) f.passes in
    let b = both (is_store_at p first) (one_word p load first) a.0 in
    record { is_store = b.0; word = b.1 }

-- the store of its value is the store
pub store_of-value : (p : Program) (store : ℕ) → is_store_at p store ≡ true → store_of p (value_of p store) ≡ Some store
store_of-value p store h =
    let test : ℕ → Bool = λ n. is_store_at p n && (value_of p n == value_of p store) in
    find_below-is test (op_count p) store (record {
      below = at_node-below (λ node. is_store node.1) p store h;
      passes = both_true (is_store_at p store) (value_of p store == value_of p store) h (eq-eqb (value_of p store) (value_of p store) refl);
      none_before = λ k lt. none k lt (test k) refl;
    })
  where
    none : (k : ℕ) → k < store → (b : Bool) → (is_store_at p k && (value_of p k == value_of p store)) ≡ b → (is_store_at p k && (value_of p k == value_of p store)) ≡ false
    none k lt false e = e
    none k lt true e =
        let parts = both (is_store_at p k) (value_of p k == value_of p store) e in
        let same = one_store p k store parts.0 h (eqb-true (value_of p k) (value_of p store) parts.1) in
        absurd (omega (arith, lt, same))

pub store_of-some : (p : Program) (value store : ℕ) → store_of p value ≡ Some store → (is_store_at p store ≡ true) × (value_of p store ≡ value)
store_of-some p value store e =
    let f = find_below-some (λ n. is_store_at p n && (value_of p n == value)) (op_count p) store e in
    let parts = both (is_store_at p store) (value_of p store == value) f.passes in
    (parts.0, eqb-true (value_of p store) value parts.1)

-- the edges of a load, by what it gives

pub edges_of_initial : (p : Program) (run : List ℕ) (load : ℕ) → value_read p run load ≡ 0 → edges_of_load p run load ≡ edges_to_first_stores p load
edges_of_initial p run load e =
    ap (λ (b : Bool). cond b (edges_to_first_stores p load) (edges_by_store p load (store_of p (value_read p run load)))) (eq-eqb (value_read p run load) 0 e)

pub edges_of_value : (p : Program) (run : List ℕ) (load : ℕ) → (value_read p run load ≡ 0 → ⊥) → edges_of_load p run load ≡ edges_by_store p load (store_of p (value_read p run load))
edges_of_value p run load ne =
    ap (λ (b : Bool). cond b (edges_to_first_stores p load) (edges_by_store p load (store_of p (value_read p run load)))) (ne_eqb (value_read p run load) 0 ne)

module _ (m : MemModel) (p : Program) (run : List ℕ) (load : ℕ) (is_load_node : is_load_at p load ≡ true) where
  by_store_among : (store : ℕ) → is_store_at p store ≡ true → value_of p store ≡ value_read p run load → (apart : Bool) → same_thread p store load ≡ apart → (a b : ℕ) →
      Contains {X = ℕ × ℕ} (cond apart [] ((store, load) ∷ (edge_to load (next_store p store) ++ edge_from store (base_store p load)))) (a, b) → Edge m p run a b
  by_store_among store is_store_node value true e a b h = absurd (Contains-nil {X = ℕ × ℕ} (a, b) h)
  by_store_among store is_store_node value false e a b h = elim (Contains-cons_cases {X = ℕ × ℕ} (store, load) (edge_to load (next_store p store) ++ edge_from store (base_store p load)) (a, b) h) [
    | inl same ↦
        let source = ap (λ (x : ℕ × ℕ). x.0) same in
        let target = ap (λ (x : ℕ × ℕ). x.1) same in
        subst (λ (x : ℕ). Edge m p run x b) source (subst (λ (y : ℕ). Edge m p run store y) target (reads_from is_store_node is_load_node (sym value) e))
    | inr more ↦ elim (Contains-append_cases (edge_to load (next_store p store)) (edge_from store (base_store p load)) (a, b) more) [
      | inl later ↦
          let is = edge_to_is load (next_store p store) a b later in
          let next = next_store-some p store b is.1 in
          subst (λ (x : ℕ). Edge m p run x b) is.0 (before_later store is_load_node is_store_node (sym value) next.is_store next.beside next.later next.word)
      | inr written ↦
          let is = edge_from_is store (base_store p load) a b written in
          subst (λ (y : ℕ). Edge m p run a y) is.1 (written_before load is_store_node is_load_node (sym value) e is.0)
    ]
  ]

  by_found_among : (found : Option ℕ) → store_of p (value_read p run load) ≡ found → (a b : ℕ) → Contains (edges_by_store p load found) (a, b) → Edge m p run a b
  by_found_among None e a b h = absurd (Contains-nil {X = ℕ × ℕ} (a, b) h)
  by_found_among (Some store) e a b h =
      let is = store_of-some p (value_read p run load) store e in
      by_store_among store is.0 is.1 (same_thread p store load) refl a b h

  initial_among : value_read p run load ≡ 0 → (a b : ℕ) → Contains (edges_to_first_stores p load) (a, b) → Edge m p run a b
  initial_among initial a b h =
      let at = Contains-flat_map_back (λ thread. edge_to load (find (λ n. writes_for p load n && at_node (λ node. node.0 == thread) p n) (all_nodes p))) (nodes_below (length p.threads)) (a, b) h in
      let is = edge_to_is load (find (λ n. writes_for p load n && at_node (λ node. node.0 == at.0) p n) (all_nodes p)) a b at.2 in
      let first = first-some p load at.0 b is.1 in
      subst (λ (x : ℕ). Edge m p run x b) is.0 (before_any is_load_node initial first.is_store first.word)

  pub load_among : (a b : ℕ) → Contains (edges_of_load p run load) (a, b) → Edge m p run a b
  load_among a b h = elim (cases_eq (value_read p run load) 0) [
    | inl e ↦ initial_among e a b (subst (λ (edges : List (ℕ × ℕ)). Contains edges (a, b)) (edges_of_initial p run load e) h)
    | inr ne ↦ by_found_among (store_of p (value_read p run load)) refl a b (subst (λ (edges : List (ℕ × ℕ)). Contains edges (a, b)) (edges_of_value p run load ne) h)
  ]
