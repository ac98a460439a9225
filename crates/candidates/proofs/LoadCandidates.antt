-- The candidates of a load, by the nodes of the test.
use Rattle.std.proofs.Common.{◌≡◌, ◌∙◌, ℕ, suc, ◌<◌, ◌≤◌, List, [], ◌∷◌, ◌++◌, Bool, true, false, not, ◌&&◌, cond, map, take, drop, Option, None, Some, refl, ap, arith, sym, ⊎_elim}
use Rattle.std.specs.Prelude.{◌==◌, filter, nat_lt, slice_get}
use Rattle.std.specs.Option.{option_map_or}
use Rattle.std.proofs.lemmas.Bool.{and_parts, cases_lt, eq-eqb, lt-ltb, ltb-true}
use Rattle.std.proofs.lemmas.List.{map-append, take-append-drop, take_all}
use Rattle.std.proofs.lemmas.List.Elements.{filter-append}
use Rattle.orders.specs.Orders.{nodes_below}
use Rattle.test_lang.specs.declared.op.Op.{Op}
use Rattle.test_lang.specs.declared.op.Op.TheVariants.{Load, Store, Fence}
use Rattle.test_lang.specs.Program.{Program, nodes, all_nodes, op_count, passes, passes_after}
use Rattle.test_lang.specs.Tables.{store_nodes}
use Rattle.test_lang.specs.Values.{is_store, is_store_at, is_store_to, is_of, same_word, same_thread, one_word, store_count, value_of}
use Rattle.test_lang.specs.Runs.{own_earlier, writes_for, base, base_store, others}
use Rattle.test_lang.proofs.BaseStores.{LastBelow, base_store_below}
use Rattle.test_lang.proofs.BaseStores.LastBelow.{nothing, last}
use Rattle.test_lang.proofs.Places.{places, take-slice_get}
use Rattle.test_lang.proofs.Ranks.{length-store_nodes}
use Rattle.candidates.specs.Loads.{is_other_store}

filter_same : (f g : ℕ → Bool) → ((k : ℕ) → f k ≡ g k) → (xs : List ℕ) → filter f xs ≡ filter g xs
filter_same f g same [] = refl
filter_same f g same (x ∷ xs) = ap (λ rest. cond (f x) (x ∷ rest) rest) (filter_same f g same xs) ∙ ap (λ b. cond b (x ∷ filter g xs) (filter g xs)) (same x)

-- tests of nodes

store_of_word : (x : ℕ) (op : Op) → (is_store op && is_of x op) ≡ is_store_to x op
store_of_word x (Load word) = refl
store_of_word x (Store word) = refl
store_of_word x Fence = refl

module _ (t x : ℕ) where
  -- a store to the word in another thread
  abbrev pub other_store : ℕ × Op → Bool
  other_store node = is_store_to x node.1 && not (t == node.0)

  writes_test : (found : Option (ℕ × Op)) → (passes (λ node. is_store node.1) found && passes_after (λ first second. same_word first.1 second.1) (Some (t, Load x)) found) ≡ passes (λ node. is_store_to x node.1) found
  writes_test None = refl
  writes_test (Some node) = store_of_word x node.1

  other_test : (found : Option (ℕ × Op)) → (passes (λ node. is_store_to x node.1) found && not (passes_after (λ first second. first.0 == second.0) (Some (t, Load x)) found)) ≡ passes other_store found
  other_test None = refl
  other_test (Some node) = refl

and_true : (b : Bool) → (b && true) ≡ b
and_true true = refl
and_true false = refl

and_assoc : (a b c : Bool) → (a && (b && c)) ≡ ((a && b) && c)
and_assoc true b c = refl
and_assoc false b c = refl

-- a load of word x in thread t
module _ (p : Program) (load t x : ℕ) (e : slice_get (nodes p) load ≡ Some (t, Load x)) where
  writes_for-is : (n : ℕ) → writes_for p load n ≡ passes (λ node. is_store_to x node.1) (slice_get (nodes p) n)
  writes_for-is n =
      ap (λ found. passes (λ node. is_store node.1) (slice_get (nodes p) n) && passes_after (λ first second. same_word first.1 second.1) found (slice_get (nodes p) n)) e
      ∙ writes_test t x (slice_get (nodes p) n)

  pub others-are : others p load ≡ map (value_of p) (places (other_store t x) (nodes p) (op_count p))
  others-are =
      ap (map (value_of p)) (filter_same (λ n. writes_for p load n && not (same_thread p load n)) (λ n. passes (other_store t x) (slice_get (nodes p) n))
      (λ n.
      ap (λ b. b && not (same_thread p load n)) (writes_for-is n)
      ∙ ap (λ found. passes (λ node. is_store_to x node.1) (slice_get (nodes p) n) && not (passes_after (λ first second. first.0 == second.0) found (slice_get (nodes p) n))) e
      ∙ other_test t x (slice_get (nodes p) n))
      (nodes_below (op_count p)))

-- an earlier node of the load's thread
pub own_earlier-is : (p : Program) (load n t x : ℕ) (op : Op) → slice_get (nodes p) load ≡ Some (t, Load x) → slice_get (nodes p) n ≡ Some (t, op) → n < load → own_earlier p load n ≡ is_store_to x op
own_earlier-is p load n t x op here there lt =
    ap (λ found. writes_for p load n && (passes_after (λ first second. first.0 == second.0) found (slice_get (nodes p) n) && nat_lt n load)) here
    ∙ ap (λ found. writes_for p load n && (passes (λ second. t == second.0) found && nat_lt n load)) there
    ∙ ap (λ b. writes_for p load n && (b && nat_lt n load)) (eq-eqb t t refl)
    ∙ ap (λ b. writes_for p load n && b) (lt-ltb n load lt)
    ∙ and_true (writes_for p load n)
    ∙ writes_for-is p load t x here n
    ∙ ap (passes (λ node. is_store_to x node.1)) there

-- the last own earlier store

earlier_before : (p : Program) (load n : ℕ) → own_earlier p load n ≡ true → n < load
earlier_before p load n h =
    let parts = and_parts (writes_for p load n) (same_thread p load n && nat_lt n load) h in
    ltb-true n load (and_parts (same_thread p load n) (nat_lt n load) parts.1).1

base_from : (p : Program) (load n : ℕ) (found : Option ℕ) → own_earlier p load n ≡ true → n < op_count p → ((k : ℕ) → n < k → k < load → own_earlier p load k ≡ false) → LastBelow (own_earlier p load) (op_count p) found
    → option_map_or (value_of p) found 0 ≡ value_of p n
base_from p load n found own within none (nothing is lacks) = let no = lacks n within in absurd (cc (own, no))
base_from p load n found own within none (last w lt earlier is later) =
    let le : w ≤ n = ⊎_elim (λ (h : n < w). let no = none w h (earlier_before p load w earlier) in absurd (cc (earlier, no))) (λ (h : w ≤ n). h) (cases_lt n w) in
    let ge : n ≤ w = ⊎_elim (λ (h : w < n). let no = later n h within in absurd (cc (own, no))) (λ (h : n ≤ w). h) (cases_lt w n) in
    let same : w ≡ n = omega (arith, le, ge) in
    ap (λ (o : Option ℕ). option_map_or (value_of p) o 0) is ∙ ap (value_of p) same

pub base_found : (p : Program) (load n : ℕ) → own_earlier p load n ≡ true → n < op_count p → ((k : ℕ) → n < k → k < load → own_earlier p load k ≡ false) → base p load ≡ value_of p n
base_found p load n own within none = base_from p load n (base_store p load) own within none (base_store_below p load)

nothing_from : (p : Program) (load : ℕ) (found : Option ℕ) → ((k : ℕ) → k < load → own_earlier p load k ≡ false) → LastBelow (own_earlier p load) (op_count p) found → option_map_or (value_of p) found 0 ≡ 0
nothing_from p load found none (nothing is lacks) = ap (λ (o : Option ℕ). option_map_or (value_of p) o 0) is
nothing_from p load found none (last w lt earlier is later) = let no = none w (earlier_before p load w earlier) in absurd (cc (earlier, no))

pub base_none : (p : Program) (load : ℕ) → ((k : ℕ) → k < load → own_earlier p load k ≡ false) → base p load ≡ 0
base_none p load none = nothing_from p load (base_store p load) none (base_store_below p load)

-- the candidates behind the base, as far as the first n stores go

abbrev pub others_below : Program → ℕ → ℕ → List ℕ
others_below p load n = map (value_of p) (filter (is_other_store p load) (take n (store_nodes p)))

map_cond : (f : ℕ → ℕ) (b : Bool) (n : ℕ) → map f (cond b (n ∷ []) []) ≡ cond b (f n ∷ []) []
map_cond f true n = refl
map_cond f false n = refl

pub others_below-suc : (p : Program) (load n node : ℕ) → slice_get (store_nodes p) n ≡ Some node → others_below p load (suc n) ≡ others_below p load n ++ cond (is_other_store p load node) (value_of p node ∷ []) []
others_below-suc p load n node e =
    ap (λ xs. map (value_of p) (filter (is_other_store p load) xs)) (take-slice_get (store_nodes p) n node e)
    ∙ ap (map (value_of p)) (filter-append (is_other_store p load) (take n (store_nodes p)) (node ∷ []))
    ∙ map-append (value_of p) (filter (is_other_store p load) (take n (store_nodes p))) (cond (is_other_store p load node) (node ∷ []) [])
    ∙ ap (λ more. others_below p load n ++ more) (map_cond (value_of p) (is_other_store p load node) node)

twice_by : (f g : ℕ → Bool) (x : ℕ) (xs kept : List ℕ) (b c : Bool) → (f x ≡ true → g x ≡ true) → g x ≡ b → f x ≡ c → filter f kept ≡ filter f xs → filter f (cond b (x ∷ kept) kept) ≡ cond c (x ∷ filter f xs) (filter f xs)
twice_by f g x xs kept true c h is holds rest = ap (λ list. cond (f x) (x ∷ list) list) rest ∙ ap (λ d. cond d (x ∷ filter f xs) (filter f xs)) holds
twice_by f g x xs kept false true h is holds rest = let no = h holds in absurd (cc (is, no))
twice_by f g x xs kept false false h is holds rest = rest

filter_twice : (f g : ℕ → Bool) → ((k : ℕ) → f k ≡ true → g k ≡ true) → (xs : List ℕ) → filter f (filter g xs) ≡ filter f xs
filter_twice f g h [] = refl
filter_twice f g h (x ∷ xs) = twice_by f g x xs (filter g xs) (g x) (f x) (h x) refl refl (filter_twice f g h xs)

pub other_is_store : (p : Program) (load n : ℕ) → is_other_store p load n ≡ true → is_store_at p n ≡ true
other_is_store p load n h = (and_parts (is_store_at p n) (one_word p load n) (and_parts (writes_for p load n) (not (same_thread p load n)) h).0).0

pub others_below-all : (p : Program) (load : ℕ) → others_below p load (store_count p) ≡ others p load
others_below-all p load =
    let long = length-store_nodes p in
    ap (λ xs. map (value_of p) (filter (is_other_store p load) xs)) (take_all (store_count p) (store_nodes p) (omega (arith, long)))
    ∙ ap (map (value_of p)) (filter_twice (is_other_store p load) (is_store_at p) (other_is_store p load) (all_nodes p))

-- they stand at the front of all
pub others_below-front : (p : Program) (load n : ℕ) → (rest : List ℕ) × (others p load ≡ others_below p load n ++ rest)
others_below-front p load n =
    let left = drop n (store_nodes p) in (
      map (value_of p) (filter (is_other_store p load) left),
      ap (map (value_of p)) (sym (filter_twice (is_other_store p load) (is_store_at p) (other_is_store p load) (all_nodes p)))
          ∙ ap (λ xs. map (value_of p) (filter (is_other_store p load) xs)) (sym (take-append-drop n (store_nodes p)))
          ∙ ap (map (value_of p)) (filter-append (is_other_store p load) (take n (store_nodes p)) left)
          ∙ map-append (value_of p) (filter (is_other_store p load) (take n (store_nodes p))) (filter (is_other_store p load) left),
    )
