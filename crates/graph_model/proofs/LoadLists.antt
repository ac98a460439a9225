-- The list of a load's edges, as it is put together.
use Rattle.std.proofs.Common.{◌≡◌, ℕ, ◌≤◌, List, Bool, true, ◌&&◌, get_or, arith, refl, sym, ap, subst, ◌∙◌}
use Rattle.std.specs.Prelude.{Option, Some, None, find, slice_get, ◌==◌}
use Rattle.std.specs.Option.{option_map}
use Rattle.std.proofs.lemmas.Bool.Decides.{nat_tests}
use Rattle.std.proofs.lemmas.Option.{get_or_from_slice_get}
use Rattle.test_lang.specs.declared.op.Op.{Op}
use Rattle.test_lang.specs.declared.op.Op.TheVariants.{Load, Store, Fence}
use Rattle.test_lang.specs.Program.{Program, all_nodes, nodes, op_at, op_count, at_node, passes, passes_after}
use Rattle.test_lang.specs.Values.{is_store, is_store_to, same_word, is_store_at, is_load_at, value_of, rank_of, load_nodes, store_count}
use Rattle.test_lang.specs.Runs.{value_read, writes_for, IsInside}
use Rattle.graph_model.specs.LoadEdges.{store_of, edges_to_first_stores, edges_by_store, edges_of_load}
use Rattle.graph_model.specs.StoreTables.{is_thread_store, first_store_to}
use Rattle.graph_model.proofs.Found.{find-same}
use Rattle.graph_model.proofs.LaterStores.{value_read-le}
use Rattle.graph_model.proofs.LoadEdges.{edges_of_initial, edges_of_value, store_of-value}

-- a thread's first store to the word of a load

store_to_from : (load y : Option (ℕ × Op)) (x t : ℕ) → option_map (λ (node : ℕ × Op). node.1) load ≡ Some (Load x) →
    passes (λ node. (node.0 == t) && is_store_to x node.1) y
    ≡ ((passes (λ node. is_store node.1) y && passes_after (λ first second. same_word first.1 second.1) load y) && passes (λ node. node.0 == t) y)
store_to_from None y x t e = absurd cc
store_to_from (Some l) None x t e = refl
store_to_from (Some l) (Some y) x t e =
    let op : Load x ≡ l.1 = cc in
    swap (y.0 == t) (is_store_to x y.1)
    ∙ ap (λ (b : Bool). b && (y.0 == t)) (stores_of x y.1)
    ∙ ap (λ (o : Op). (is_store y.1 && same_word o y.1) && (y.0 == t)) op
  where
    swap : (a b : Bool) → (a && b) ≡ (b && a)
    swap a b = grind (arith, nat_tests)

    stores_of : (x : ℕ) (op : Op) → is_store_to x op ≡ (is_store op && same_word (Load x) op)
    stores_of x (Load word) = refl
    stores_of x (Store word) = refl
    stores_of x Fence = refl

pub first_store_told : (p : Program) (load x t : ℕ) → op_at p load ≡ Some (Load x) → first_store_to p x t ≡ find (λ n. writes_for p load n && at_node (λ node. node.0 == t) p n) (all_nodes p)
first_store_told p load x t e =
    find-same (is_thread_store p x t) (λ n. writes_for p load n && at_node (λ node. node.0 == t) p n)
    (λ n. store_to_from (slice_get (nodes p) load) (slice_get (nodes p) n) x t e) (op_count p)

-- all edges of the load of a rank

module _ (p : Program) (run : List ℕ) (load rank : ℕ) (listed : slice_get (load_nodes p) rank ≡ Some load) (ranked : rank_of p load ≡ rank) where
  load_is : load ≡ get_or (load_nodes p) rank 0
  load_is = sym (get_or_from_slice_get (load_nodes p) rank load 0 listed)

  value_is : value_read p run load ≡ get_or run rank 0
  value_is = ap (λ (r : ℕ). get_or run r 0) ranked

  pub initial_edges : get_or run rank 0 ≡ 0 → edges_to_first_stores p load ≡ edges_of_load p run (get_or (load_nodes p) rank 0)
  initial_edges e = sym (edges_of_initial p run load (value_is ∙ e)) ∙ ap (edges_of_load p run) load_is

  pub store_edges : (store : ℕ) → is_store_at p store ≡ true → value_of p store ≡ get_or run rank 0 → edges_by_store p load (Some store) ≡ edges_of_load p run (get_or (load_nodes p) rank 0)
  store_edges store h e =
      let value = value_is ∙ sym e in
      ap (edges_by_store p load) (sym (store_of-value p store h))
      ∙ ap (λ (v : ℕ). edges_by_store p load (store_of p v)) (sym value)
      ∙ sym (edges_of_value p run load (λ zero. omega (arith, zero, value)))
      ∙ ap (edges_of_load p run) load_is

  pub value_few : IsInside p run → is_load_at p load ≡ true → get_or run rank 0 ≤ store_count p
  value_few inside h = subst (λ (v : ℕ). v ≤ store_count p) value_is (value_read-le p run load inside h)
