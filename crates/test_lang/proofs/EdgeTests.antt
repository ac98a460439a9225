-- The test of two nodes tells the edges.
use Rattle.std.proofs.Common.{◌≡◌, ◌⊎◌, ℕ, zero, suc, ◌<◌, List, [], ◌∷◌, Bool, true, false, not, ◌&&◌, ◌||◌, length, get_or, inl, inr, arith, ap, subst, sym, ◌∙◌, Contains, Option, Some, None, refl}
use Rattle.std.specs.Prelude.{◌==◌, filter, nat_lt, IsTrue, IsFalse, slice_get}
use Rattle.std.specs.Bool.{Decides}
use Rattle.std.specs.List.{list_any}
use Rattle.std.specs.Option.{option_map_or}
use Rattle.std.proofs.lemmas.List.{get_or_default}
use Rattle.std.proofs.lemmas.Option.{same_Some}
use Rattle.std.proofs.lemmas.Bool.Decides.{Decides-like, Decides-and, Decides-or, Decides-eqb, Decides-ltb, Decides-by_or}
use Rattle.orders.proofs.Below.{has-below}
use Rattle.orders.proofs.Members.{Contains-filter, Contains-filter_back}
use Rattle.test_lang.specs.declared.op.Op.{Op}
use Rattle.test_lang.specs.declared.op.Action.{Action}
use Rattle.test_lang.specs.declared.op.MemModel.{MemModel}
use Rattle.test_lang.specs.Program.{Program, nodes, all_nodes, op_count, actions, at_action, at_actions, at_node, at_nodes, passes, passes_after}
use Rattle.test_lang.specs.Values.{is_load, is_store, is_load_at, is_store_at, same_thread, one_word, value_of}
use Rattle.test_lang.specs.Kept.{keeps, is_kept, IsKept}
use Rattle.test_lang.specs.Runs.{value_read, writes_for, base_store}
use Rattle.test_lang.specs.Edges.{RunEdge, Edge}
use Rattle.test_lang.specs.Edges.RunEdge.{kept, reads_from, before_later, before_any, written_before}
use Rattle.test_lang.specs.EdgeList.{is_reads_from, is_before_later_of, is_before_later, is_before_any, is_base_store, is_written_before, is_run_edge, is_edge}
use Rattle.test_lang.proofs.ActionNodes.{length-actions}
use Rattle.test_lang.proofs.BaseStores.{base_store_own}

decides_itself : (b : Bool) → Decides b (IsTrue b)
decides_itself b = (λ h. h, λ h. h)

pub not-true : (b : Bool) → not b ≡ true → b ≡ false
not-true true h = absurd cc
not-true false h = cc

true-not : (b : Bool) → b ≡ false → not b ≡ true
true-not true h = absurd cc
true-not false h = cc

decides_not : (b : Bool) → Decides (not b) (IsFalse b)
decides_not b = (not-true b, true-not b)

decides_kept : (m : MemModel) (p : Program) (a b : ℕ) → Decides (is_kept m p a b) (IsKept m p a b)
decides_kept m p a b = decides_itself (is_kept m p a b)

passes_below : (test : ℕ × Op → Bool) (xs : List (ℕ × Op)) (n : ℕ) → passes test (slice_get xs n) ≡ true → n < length xs
passes_below test [] n h = absurd cc
passes_below test (x ∷ xs) zero h = omega arith
passes_below test (x ∷ xs) (suc n) h = let below = passes_below test xs n h in omega (arith, below)

-- a node that passes a test is a node
pub at_node-below : (test : ℕ × Op → Bool) (p : Program) (n : ℕ) → at_node test p n ≡ true → n < op_count p
at_node-below test p n h = passes_below test (nodes p) n h

pub decides_reads_from : (p : Program) (run : List ℕ) (a b : ℕ) →
    Decides (is_reads_from p run a b) ((IsTrue (is_store_at p a) × IsTrue (is_load_at p b)) × ((value_read p run b ≡ value_of p a) × IsFalse (same_thread p a b)))
decides_reads_from p run a b =
    Decides-and (is_store_at p a && is_load_at p b) ((value_read p run b == value_of p a) && not (same_thread p a b))
    (Decides-and (is_store_at p a) (is_load_at p b) (decides_itself (is_store_at p a)) (decides_itself (is_load_at p b)))
    (Decides-and (value_read p run b == value_of p a) (not (same_thread p a b)) (Decides-eqb (value_read p run b) (value_of p a)) (decides_not (same_thread p a b)))

-- b is before a later store of the given one's thread, in four facts and three
abbrev pub IsLaterOf : Program → List ℕ → ℕ → ℕ → ℕ → Type 0
IsLaterOf p run a b store =
    (IsTrue (is_load_at p a) × (IsTrue (is_store_at p store) × (value_read p run a ≡ value_of p store)))
    × ((IsTrue (is_store_at p b) × IsTrue (same_thread p store b)) × ((store < b) × IsTrue (one_word p store b)))

decides_later_of : (p : Program) (run : List ℕ) (a b store : ℕ) → Decides (is_before_later_of p run a b store) (IsLaterOf p run a b store)
decides_later_of p run a b store =
    Decides-and (is_load_at p a && (is_store_at p store && (value_read p run a == value_of p store)))
    ((is_store_at p b && same_thread p store b) && (nat_lt store b && one_word p store b))
    (Decides-and (is_load_at p a) (is_store_at p store && (value_read p run a == value_of p store)) (decides_itself (is_load_at p a))
    (Decides-and (is_store_at p store) (value_read p run a == value_of p store) (decides_itself (is_store_at p store)) (Decides-eqb (value_read p run a) (value_of p store))))
    (Decides-and (is_store_at p b && same_thread p store b) (nat_lt store b && one_word p store b)
    (Decides-and (is_store_at p b) (same_thread p store b) (decides_itself (is_store_at p b)) (decides_itself (same_thread p store b)))
    (Decides-and (nat_lt store b) (one_word p store b) (Decides-ltb store b) (decides_itself (one_word p store b))))

pub decides_later : (p : Program) (run : List ℕ) (a b : ℕ) → Decides (is_before_later p run a b) ((store : ℕ) × IsLaterOf p run a b store)
decides_later p run a b =
    let found = Decides-by_or (is_before_later_of p run a b) (IsLaterOf p run a b) (list_any (is_before_later_of p run a b)) (decides_later_of p run a b) refl (λ x xs. refl) (all_nodes p) in (
      λ h. let k = found.0 h in (get_or (all_nodes p) k.0 0, k.2 0),
      λ h.
          let at = has-below (op_count p) h.0 (at_node-below (λ node. is_store node.1) p h.0 h.1.0.1.0) in
          found.1 (at.0, at.1, λ d. subst (IsLaterOf p run a b) (sym (get_or_default (all_nodes p) at.0 d h.0 at.1 ∙ at.2)) h.1),
    )

pub decides_any : (p : Program) (run : List ℕ) (a b : ℕ) →
    Decides (is_before_any p run a b) ((IsTrue (is_load_at p a) × (value_read p run a ≡ 0)) × (IsTrue (is_store_at p b) × IsTrue (one_word p a b)))
decides_any p run a b =
    Decides-and (is_load_at p a && (value_read p run a == 0)) (is_store_at p b && one_word p a b)
    (Decides-and (is_load_at p a) (value_read p run a == 0) (decides_itself (is_load_at p a)) (Decides-eqb (value_read p run a) 0))
    (Decides-and (is_store_at p b) (one_word p a b) (decides_itself (is_store_at p b)) (decides_itself (one_word p a b)))

-- a load that gives the value of b in another thread, and has a for its base store
abbrev pub IsWrittenBy : Program → List ℕ → ℕ → ℕ → ℕ → Type 0
IsWrittenBy p run a b load =
    ((IsTrue (is_store_at p b) × IsTrue (is_load_at p load)) × ((value_read p run load ≡ value_of p b) × IsFalse (same_thread p b load))) × (base_store p load ≡ Some a)

base_from : (found : Option ℕ) (a : ℕ) → Decides (option_map_or (λ store. store == a) found false) (found ≡ Some a)
base_from None a = (λ h. absurd cc, λ h. absurd cc)
base_from (Some w) a = (λ h. ap (λ (n : ℕ). Some n) ((Decides-eqb w a).0 h), λ h. (Decides-eqb w a).1 (same_Some w a h))

pub decides_base : (p : Program) (load a : ℕ) → Decides (is_base_store p load a) (base_store p load ≡ Some a)
decides_base p load a = base_from (base_store p load) a

pub decides_written : (p : Program) (run : List ℕ) (a b : ℕ) → Decides (is_written_before p run a b) ((load : ℕ) × IsWrittenBy p run a b load)
decides_written p run a b =
    let among : List ℕ = filter (is_reads_from p run b) (all_nodes p) in
    let found = Decides-by_or (λ load. is_base_store p load a) (λ load. base_store p load ≡ Some a) (list_any (λ load. is_base_store p load a)) (λ load. decides_base p load a) refl (λ x xs. refl) among in (
      λ h.
          let k = found.0 h in
          let load : ℕ = get_or among k.0 0 in
          let there : Contains among load = (k.0, k.1, get_or_default among k.0 load 0 k.1) in
          (load, ((decides_reads_from p run b load).0 (Contains-filter_back (is_reads_from p run b) (all_nodes p) load there).1, k.2 0)),
      λ h.
          let reads = (decides_reads_from p run b h.0).1 (h.1.0) in
          let node = has-below (op_count p) h.0 (at_node-below (λ node. is_load node.1) p h.0 h.1.0.0.1) in
          let at = Contains-filter (is_reads_from p run b) (all_nodes p) h.0 node reads in
          found.1 (at.0, at.1, λ d. subst (λ (load : ℕ). base_store p load ≡ Some a) (sym (get_or_default among at.0 d h.0 at.1 ∙ at.2)) h.1.1),
    )

-- over any kept pairs that a test tells
module _ (Kept : ℕ → ℕ → Type 0) (keeps : ℕ → ℕ → Bool) (told : (a b : ℕ) → Decides (keeps a b) (Kept a b)) (p : Program) (run : List ℕ) where
  -- the kinds of edges as a sum
  abbrev IsOneOf : ℕ → ℕ → Type 0
  IsOneOf a b =
      Kept a b
      ⊎ (((IsTrue (is_store_at p a) × IsTrue (is_load_at p b)) × ((value_read p run b ≡ value_of p a) × IsFalse (same_thread p a b)))
      ⊎ (((store : ℕ) × IsLaterOf p run a b store)
      ⊎ (((IsTrue (is_load_at p a) × (value_read p run a ≡ 0)) × (IsTrue (is_store_at p b) × IsTrue (one_word p a b)))
      ⊎ ((load : ℕ) × IsWrittenBy p run a b load))))

  decides_one_of : (a b : ℕ) → Decides (is_run_edge keeps p run a b) (IsOneOf a b)
  decides_one_of a b =
      Decides-or (keeps a b) (is_reads_from p run a b || (is_before_later p run a b || (is_before_any p run a b || is_written_before p run a b))) (told a b)
      (Decides-or (is_reads_from p run a b) (is_before_later p run a b || (is_before_any p run a b || is_written_before p run a b)) (decides_reads_from p run a b)
      (Decides-or (is_before_later p run a b) (is_before_any p run a b || is_written_before p run a b) (decides_later p run a b)
      (Decides-or (is_before_any p run a b) (is_written_before p run a b) (decides_any p run a b) (decides_written p run a b))))

  to_edge : (a b : ℕ) → IsOneOf a b → RunEdge Kept p run a b
  to_edge a b (inl h) = kept h
  to_edge a b (inr (inl h)) = reads_from h.0.0 h.0.1 h.1.0 h.1.1
  to_edge a b (inr (inr (inl h))) = before_later h.0 h.1.0.0 h.1.0.1.0 h.1.0.1.1 h.1.1.0.0 h.1.1.0.1 h.1.1.1.0 h.1.1.1.1
  to_edge a b (inr (inr (inr (inl h)))) = before_any h.0.0 h.0.1 h.1.0 h.1.1
  to_edge a b (inr (inr (inr (inr h)))) = written_before h.0 h.1.0.0.0 h.1.0.0.1 h.1.0.1.0 h.1.0.1.1 h.1.1

  from_edge : (a b : ℕ) → RunEdge Kept p run a b → IsOneOf a b
  from_edge a b (kept h) = inl h
  from_edge a b (reads_from store load value other) = inr (inl ((store, load), (value, other)))
  from_edge a b (before_later w load store value later same lt word) = inr (inr (inl (w, ((load, (store, value)), ((later, same), (lt, word))))))
  from_edge a b (before_any load value store word) = inr (inr (inr (inl ((load, value), (store, word)))))
  from_edge a b (written_before l store load value other base) = inr (inr (inr (inr (l, (((store, load), (value, other)), base)))))

  -- the test tells the edges
  pub decides_run_edge : (a b : ℕ) → Decides (is_run_edge keeps p run a b) (RunEdge Kept p run a b)
  decides_run_edge a b = Decides-like (is_run_edge keeps p run a b) (to_edge a b) (from_edge a b) (decides_one_of a b)

pub decides_edge : (m : MemModel) (p : Program) (run : List ℕ) (a b : ℕ) → Decides (is_edge m p run a b) (Edge m p run a b)
decides_edge m p run a b = decides_run_edge (IsKept m p) (is_kept m p) (decides_kept m p) p run a b

passes_after_below : (test : ℕ × Op → ℕ × Op → Bool) (xs : List (ℕ × Op)) (first : Option (ℕ × Op)) (b : ℕ) → passes_after test first (slice_get xs b) ≡ true → b < length xs
passes_after_below test xs None b h = absurd cc
passes_after_below test xs (Some x) b h = passes_below (test x) xs b h

passes_after_first : (test : ℕ × Op → ℕ × Op → Bool) (xs : List (ℕ × Op)) (a : ℕ) (second : Option (ℕ × Op)) → passes_after test (slice_get xs a) second ≡ true → a < length xs
passes_after_first test [] a second h = absurd cc
passes_after_first test (x ∷ xs) zero second h = omega arith
passes_after_first test (x ∷ xs) (suc a) second h = let below = passes_after_first test xs a second h in omega (arith, below)

-- two nodes that pass a test are nodes
pub at_nodes-below : (test : ℕ × Op → ℕ × Op → Bool) (p : Program) (a b : ℕ) → at_nodes test p a b ≡ true → (a < op_count p) × (b < op_count p)
at_nodes-below test p a b h =
    (passes_after_first test (nodes p) a (slice_get (nodes p) b) h, passes_after_below test (nodes p) (slice_get (nodes p) a) b h)

and_first : (x y : Bool) → (x && y) ≡ true → x ≡ true
and_first true y h = refl
and_first false y h = absurd cc

and_second : (x y : Bool) → (x && y) ≡ true → y ≡ true
and_second true y h = h
and_second false y h = absurd cc

-- the base store of a load is a node
base_store-node : (p : Program) (load a : ℕ) → base_store p load ≡ Some a → a < op_count p
base_store-node p load a e =
    let own = base_store_own p load a e in
    at_node-below (λ node. is_store node.1) p a (and_first (is_store_at p a) (one_word p load a) (and_first (writes_for p load a) (same_thread p load a && nat_lt a load) own))

-- what is found in a list stands in it

found_below : (test : ℕ × Action → Bool) (xs : List (ℕ × Action)) (n : ℕ) → option_map_or test (slice_get xs n) false ≡ true → n < length xs
found_below test [] n h = absurd cc
found_below test (x ∷ xs) zero h = omega arith
found_below test (x ∷ xs) (suc n) h = let below = found_below test xs n h in omega (arith, below)

-- a node whose action passes a test is a node
pub at_action-below : (test : ℕ × Action → Bool) (p : Program) (n : ℕ) → at_action test p n ≡ true → n < op_count p
at_action-below test p n h = let below = found_below test (actions p) n h in let all = length-actions p in omega (arith, below, all)

found_second : (test : ℕ × Action → ℕ × Action → Bool) (p : Program) (first : Option (ℕ × Action)) (b : ℕ) → option_map_or (λ first. at_action (test first) p b) first false ≡ true → b < length (actions p)
found_second test p None b h = absurd cc
found_second test p (Some x) b h = found_below (test x) (actions p) b h

pub at_actions-below : (test : ℕ × Action → ℕ × Action → Bool) (p : Program) (a b : ℕ) → at_actions test p a b ≡ true → (a < op_count p) × (b < op_count p)
at_actions-below test p a b h =
    let all = length-actions p in
    let first = found_below (λ first. at_action (test first) p b) (actions p) a h in
    let second = found_second test p (slice_get (actions p) a) b h in
    (omega (arith, all, first), omega (arith, all, second))

-- kept nodes are nodes
pub kept-nodes : (m : MemModel) (p : Program) (a b : ℕ) → IsKept m p a b → (a < op_count p) × (b < op_count p)
kept-nodes m p a b h =
    let test : ℕ × Action → ℕ × Action → Bool = λ first second. (first.0 == second.0) && keeps m first.1 second.1 in
    at_actions-below test p a b (and_second (nat_lt a b) (at_actions test p a b) h)

-- an edge leads from a node to a node
pub run_edge-nodes : (Kept : ℕ → ℕ → Type 0) (p : Program) (run : List ℕ) → ((a b : ℕ) → Kept a b → (a < op_count p) × (b < op_count p))
    → (a b : ℕ) → RunEdge Kept p run a b → (a < op_count p) × (b < op_count p)
run_edge-nodes Kept p run nodes a b (kept h) = nodes a b h
run_edge-nodes Kept p run nodes a b (reads_from store load value other) = (at_node-below (λ node. is_store node.1) p a store, at_node-below (λ node. is_load node.1) p b load)
run_edge-nodes Kept p run nodes a b (before_later w load store value later same lt word) = (at_node-below (λ node. is_load node.1) p a load, at_node-below (λ node. is_store node.1) p b later)
run_edge-nodes Kept p run nodes a b (before_any load value store word) = (at_node-below (λ node. is_load node.1) p a load, at_node-below (λ node. is_store node.1) p b store)
run_edge-nodes Kept p run nodes a b (written_before l store load value other base) = (base_store-node p l a base, at_node-below (λ node. is_store node.1) p b store)

pub edge-nodes : (m : MemModel) (p : Program) (run : List ℕ) (a b : ℕ) → Edge m p run a b → (a < op_count p) × (b < op_count p)
edge-nodes m p run a b edge = run_edge-nodes (IsKept m p) p run (kept-nodes m p) a b edge
