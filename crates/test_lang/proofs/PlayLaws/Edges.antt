-- An explained run respects all edges.
use Rattle.std.proofs.Common.{◌≡◌, ◌∙◌, ◌⊎◌, ℕ, ◌<◌, List, true, false, length, get_or, ⊎_elim, arith, refl, sym, subst, Some}
use Rattle.std.proofs.lemmas.Bool.{cases_order}
use Rattle.orders.specs.Orders.{IsOrder}
use Rattle.orders.proofs.Below.{has-below}
use Rattle.orders.proofs.FewEdges.{place_of}
use Rattle.test_lang.specs.Program.{Program, op_count, all_nodes}
use Rattle.test_lang.specs.Values.{is_load_at, is_store_at, same_thread, one_word, value_of}
use Rattle.test_lang.specs.Runs.{value_read, writes_for, base_store}
use Rattle.test_lang.specs.Edges.{RunEdge}
use Rattle.test_lang.specs.Edges.RunEdge.{kept as kept_edge, reads_from, before_later, before_any, written_before}
use Rattle.test_lang.specs.Play.Explanations.{Explains, KeepsOneWord, IsWeaker}
use Rattle.test_lang.proofs.Ranks.{is_load_at-below, is_store_at-below, one_store}
use Rattle.test_lang.proofs.PlayLaws.Lasts.{one_place, both, both_true}
use Rattle.test_lang.proofs.PlayLaws.Words.{one_word-as, same_thread-back, not_both}
use Rattle.test_lang.proofs.PlayLaws.Giving.{base_own, WhyAt, why_at}
use Rattle.test_lang.proofs.PlayLaws.Giving.WhyAt.{before, initial, read}

no_zero : (p : Program) (n value : ℕ) → value ≡ 0 → value ≡ value_of p n → ⊥
no_zero p n value z v = omega (arith, z, v)

module _ (Kept : ℕ → ℕ → Type 0) (p : Program) (run order : List ℕ) (one : KeepsOneWord Kept p) (e : Explains Kept p run order) where
  pub at_place : (x : ℕ) → x < op_count p → (k : ℕ) × (k < length order) × (get_or order k 0 ≡ x)
  at_place x lt = place_of Kept (all_nodes p) order e.is_order x (has-below (op_count p) x lt)

  pub same_place : (i j : ℕ) → i < length order → j < length order → get_or order i 0 ≡ get_or order j 0 → i ≡ j
  same_place i j li lj same = one_place order e.is_order.once i j li lj same

  pub reason : (j : ℕ) → j < length order → is_load_at p (get_or order j 0) ≡ true → WhyAt p order j (get_or order j 0) (value_read p run (get_or order j 0))
  reason j lj load =
      subst (WhyAt p order j (get_or order j 0)) (sym (e.gives j lj load)) (why_at p order j (get_or order j 0) load (omega (arith, lj)))

  -- what stands before a store of its thread to the same word stands before it in the order
  pub forward : (i j a b : ℕ) → i < length order → j < length order → get_or order i 0 ≡ a → get_or order j 0 ≡ b → a < b → same_thread p a b ≡ true → one_word p a b ≡ true → is_store_at p b ≡ true → i < j
  forward i j a b li lj ea eb lt t w s =
      let in_order : Kept a b = one a b lt t w s in
      e.is_order.forward i j li lj (subst (λ (x : ℕ). Kept x (get_or order j 0)) (sym ea) (subst (λ (y : ℕ). Kept a y) (sym eb) in_order))

  pub store_at : (load n : ℕ) → writes_for p load n ≡ true → is_store_at p n ≡ true
  store_at load n h = (both (is_store_at p n) (one_word p load n) h).0

  pub word_at : (load n : ℕ) → writes_for p load n ≡ true → one_word p load n ≡ true
  word_at load n h = (both (is_store_at p n) (one_word p load n) h).1

  -- a store that a load of another thread reads
  read_before : (i j : ℕ) → i < length order → j < length order → is_store_at p (get_or order i 0) ≡ true → is_load_at p (get_or order j 0) ≡ true →
      value_read p run (get_or order j 0) ≡ value_of p (get_or order i 0) → same_thread p (get_or order i 0) (get_or order j 0) ≡ false → i < j
  read_before i j li lj store load v apart = elim (reason j lj load) [
    | before own is value waits ↦
        let o = base_own p (get_or order j 0) own is in
        let same : get_or order i 0 ≡ own = one_store p (get_or order i 0) own store o.is_store (sym v ∙ value) in
        let near : same_thread p (get_or order i 0) (get_or order j 0) ≡ true = subst (λ (x : ℕ). same_thread p x (get_or order j 0) ≡ true) (sym same) (same_thread-back p (get_or order j 0) own o.thread) in
        absurd cc
    | initial z none bases ↦ absurd (no_zero p (get_or order i 0) (value_read p run (get_or order j 0)) z v)
    | read k lt writes value rest bases ↦
        let same : get_or order i 0 ≡ get_or order k 0 = one_store p (get_or order i 0) (get_or order k 0) store (store_at (get_or order j 0) (get_or order k 0) writes) (sym v ∙ value) in
        let place = same_place i k li (omega (arith, lt, lj)) same in
        omega (arith, place, lt)
  ]

  -- a load that reads a store that stands before another one of its thread to the same word
  read_earlier : (i j store : ℕ) → i < length order → j < length order → is_load_at p (get_or order i 0) ≡ true → is_store_at p store ≡ true → value_read p run (get_or order i 0) ≡ value_of p store →
      is_store_at p (get_or order j 0) ≡ true → same_thread p store (get_or order j 0) ≡ true → store < get_or order j 0 → one_word p store (get_or order j 0) ≡ true → j < i → ⊥
  read_earlier i j store li lj load is_store v later thread lt word back =
      let s = at_place store (is_store_at-below p store is_store) in
      let first : s.0 < j = forward s.0 j store (get_or order j 0) s.1 lj s.2 refl lt thread word later in
      elim (reason i li load) [
        | before own is value waits ↦
            let o = base_own p (get_or order i 0) own is in
            let same : store ≡ own = one_store p store own is_store o.is_store (sym v ∙ value) in
            waits s.0 (omega (arith, first, back)) (s.2 ∙ same)
        | initial z none bases ↦ no_zero p store (value_read p run (get_or order i 0)) z v
        | read k below writes value rest bases ↦
            let same : store ≡ get_or order k 0 = one_store p store (get_or order k 0) is_store (store_at (get_or order i 0) (get_or order k 0) writes) (sym v ∙ value) in
            let place : s.0 ≡ k = same_place s.0 k s.1 (omega (arith, below, li)) (s.2 ∙ same) in
            let none : writes_for p (get_or order i 0) (get_or order j 0) ≡ false = rest j (omega (arith, first, place)) back in
            let near : one_word p (get_or order i 0) store ≡ true = subst (λ (x : ℕ). one_word p (get_or order i 0) x ≡ true) (sym same) (word_at (get_or order i 0) (get_or order k 0) writes) in
            let far : one_word p (get_or order i 0) (get_or order j 0) ≡ true = one_word-as p (get_or order i 0) store (get_or order j 0) near ∙ word in
            let yes : writes_for p (get_or order i 0) (get_or order j 0) ≡ true = both_true (is_store_at p (get_or order j 0)) (one_word p (get_or order i 0) (get_or order j 0)) later far in
            absurd cc
      ]

  -- a load that gives the initial value, and a store to its word
  read_initial : (i j : ℕ) → i < length order → is_load_at p (get_or order i 0) ≡ true → value_read p run (get_or order i 0) ≡ 0 → is_store_at p (get_or order j 0) ≡ true →
      one_word p (get_or order i 0) (get_or order j 0) ≡ true → j < i → ⊥
  read_initial i j li load z store word back = elim (reason i li load) [
    | before own is value waits ↦ no_zero p own (value_read p run (get_or order i 0)) z value
    | initial y none bases ↦
        let no = none j back in
        let yes : writes_for p (get_or order i 0) (get_or order j 0) ≡ true = both_true (is_store_at p (get_or order j 0)) (one_word p (get_or order i 0) (get_or order j 0)) store word in
        absurd cc
    | read k lt writes value rest bases ↦ no_zero p (get_or order k 0) (value_read p run (get_or order i 0)) z value
  ]

  load_or_store : (i j : ℕ) → is_load_at p (get_or order i 0) ≡ true → is_store_at p (get_or order j 0) ≡ true → i ≡ j → ⊥
  load_or_store i j load store same = not_both p (get_or order i 0) load (subst (λ (k : ℕ). is_store_at p (get_or order k 0) ≡ true) (sym same) store)

  pub forward_or : (i j : ℕ) → (i ≡ j → ⊥) → (j < i → ⊥) → i < j
  forward_or i j apart back = ⊎_elim (λ (h : i ≡ j). absurd (apart h)) (λ (other : (i < j) ⊎ (j < i)). ⊎_elim (λ (lt : i < j). lt) (λ (lt : j < i). absurd (back lt)) other) (cases_order i j)

  -- a base that reached memory before the store that its load reads
  written_at : (i j l : ℕ) → i < length order → j < length order → l < length order → is_load_at p (get_or order l 0) ≡ true → is_store_at p (get_or order j 0) ≡ true →
      value_read p run (get_or order l 0) ≡ value_of p (get_or order j 0) → same_thread p (get_or order j 0) (get_or order l 0) ≡ false → base_store p (get_or order l 0) ≡ Some (get_or order i 0) → i < j
  written_at i j l li lj ll load store v apart base =
      let b = base_own p (get_or order l 0) (get_or order i 0) base in
      let near : same_thread p (get_or order i 0) (get_or order l 0) ≡ true = same_thread-back p (get_or order l 0) (get_or order i 0) b.thread in
      elim (reason l ll load) [
        | before own is value waits ↦
            let o = base_own p (get_or order l 0) own is in
            let same : get_or order j 0 ≡ own = one_store p (get_or order j 0) own store o.is_store (sym v ∙ value) in
            let thread : same_thread p (get_or order j 0) (get_or order l 0) ≡ true = subst (λ (x : ℕ). same_thread p x (get_or order l 0) ≡ true) (sym same) (same_thread-back p (get_or order l 0) own o.thread) in
            absurd cc
        | initial z none bases ↦ absurd (no_zero p (get_or order j 0) (value_read p run (get_or order l 0)) z v)
        | read k lt writes value rest bases ↦
            let same : get_or order j 0 ≡ get_or order k 0 = one_store p (get_or order j 0) (get_or order k 0) store (store_at (get_or order l 0) (get_or order k 0) writes) (sym v ∙ value) in
            let place : j ≡ k = same_place j k lj (omega (arith, lt, ll)) same in
            let found = bases (get_or order i 0) base in
            let early = found.1 in
            let here : found.0 ≡ i = same_place found.0 i (omega (arith, early, ll)) li found.2 in
            forward_or i j
            (λ (h : i ≡ j). let t : same_thread p (get_or order j 0) (get_or order l 0) ≡ true = subst (λ (x : ℕ). same_thread p (get_or order x 0) (get_or order l 0) ≡ true) h near in absurd cc)
            (λ (h : j < i).
            let no : writes_for p (get_or order l 0) (get_or order i 0) ≡ false = rest i (omega (arith, h, place)) (omega (arith, early, here)) in
            let yes : writes_for p (get_or order l 0) (get_or order i 0) ≡ true = both_true (is_store_at p (get_or order i 0)) (one_word p (get_or order l 0) (get_or order i 0)) b.is_store b.word in
            absurd cc)
      ]

  written_forward : (i j load : ℕ) → i < length order → j < length order → is_load_at p load ≡ true → is_store_at p (get_or order j 0) ≡ true → value_read p run load ≡ value_of p (get_or order j 0) →
      same_thread p (get_or order j 0) load ≡ false → base_store p load ≡ Some (get_or order i 0) → i < j
  written_forward i j load li lj is store gives apart base =
      let l = at_place load (is_load_at-below p load is) in
      let back : load ≡ get_or order l.0 0 = sym l.2 in
      written_at i j l.0 li lj l.1 (subst (λ (x : ℕ). is_load_at p x ≡ true) back is) store
      (subst (λ (x : ℕ). value_read p run x ≡ value_of p (get_or order j 0)) back gives)
      (subst (λ (x : ℕ). same_thread p (get_or order j 0) x ≡ false) back apart)
      (subst (λ (x : ℕ). base_store p x ≡ Some (get_or order i 0)) back base)

  edge_forward : (Lax : ℕ → ℕ → Type 0) → IsWeaker Lax Kept → (i j : ℕ) → i < length order → j < length order → RunEdge Lax p run (get_or order i 0) (get_or order j 0) → i < j
  edge_forward Lax weak i j li lj (kept_edge h) = e.is_order.forward i j li lj (weak (get_or order i 0) (get_or order j 0) h)
  edge_forward Lax weak i j li lj (reads_from store load value apart) = read_before i j li lj store load value apart
  edge_forward Lax weak i j li lj (before_later w load store value later thread lt word) =
      forward_or i j (load_or_store i j load later) (read_earlier i j w li lj load store value later thread lt word)
  edge_forward Lax weak i j li lj (before_any load value store word) =
      forward_or i j (load_or_store i j load store) (read_initial i j li load value store word)
  edge_forward Lax weak i j li lj (written_before l store load value apart base) = written_forward i j l li lj load store value apart base

  pub ordered : (Lax : ℕ → ℕ → Type 0) → IsWeaker Lax Kept → IsOrder (RunEdge Lax p run) (all_nodes p) order
  ordered Lax weak = record { same_nodes = e.is_order.same_nodes; once = e.is_order.once; forward = edge_forward Lax weak }
