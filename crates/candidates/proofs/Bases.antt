-- The base of a load is no other of its candidates.
use Rattle.std.proofs.Common.{◌≡◌, ◌∙◌, ℕ, ◌+◌, ◌≤◌, List, [], ◌∷◌, Bool, true, false, not, ◌&&◌, cond, length, Contains, Option, Some, refl, ap, arith}
use Rattle.std.specs.Prelude.{count_by, filter, nat_lt, slice_get}
use Rattle.std.specs.Option.{option_map_or}
use Rattle.std.proofs.lemmas.Bool.{and_parts, not-true}
use Rattle.std.proofs.lemmas.List.Sums.{sum_by-cons}
use Rattle.std.proofs.lemmas.Option.{get_or_from_slice_get, slice_get_within}
use Rattle.orders.proofs.Members.{Contains-filter_back, Contains-map_back}
use Rattle.test_lang.specs.declared.op.Op.{Op}
use Rattle.test_lang.specs.declared.op.Op.TheVariants.{Load, Store, Fence}
use Rattle.test_lang.specs.Program.{Program, all_nodes, op_count}
use Rattle.test_lang.specs.Values.{is_load, is_store, is_store_to, is_store_at, one_word, same_thread, store_count, value_of}
use Rattle.test_lang.specs.Runs.{own_earlier, writes_for, base_store, base, others}
use Rattle.test_lang.proofs.BaseStores.{LastBelow, base_store_below}
use Rattle.test_lang.proofs.BaseStores.LastBelow.{nothing, last}
use Rattle.test_lang.proofs.Ranks.{one_store, value_of-le}

-- the base is no other candidate

is_other_store : (p : Program) (load w : ℕ) → (writes_for p load w && not (same_thread p load w)) ≡ true → (is_store_at p w ≡ true) × (same_thread p load w ≡ false)
is_other_store p load w h =
    let parts = and_parts (writes_for p load w) (not (same_thread p load w)) h in
    ((and_parts (is_store_at p w) (one_word p load w) parts.0).0, not-true (same_thread p load w) parts.1)

is_own_store : (p : Program) (load w : ℕ) → own_earlier p load w ≡ true → (is_store_at p w ≡ true) × (same_thread p load w ≡ true)
is_own_store p load w h =
    let parts = and_parts (writes_for p load w) (same_thread p load w && nat_lt w load) h in
    ((and_parts (is_store_at p w) (one_word p load w) parts.0).0, (and_parts (same_thread p load w) (nat_lt w load) parts.1).0)

base_or_other : (p : Program) (load w : ℕ) (found : Option ℕ) → is_store_at p w ≡ true → same_thread p load w ≡ false → value_of p w ≡ option_map_or (value_of p) found 0
    → LastBelow (own_earlier p load) (op_count p) found → ⊥
base_or_other p load w found store far e (nothing is none) =
    let zero : option_map_or (value_of p) found 0 ≡ 0 = ap (λ (o : Option ℕ). option_map_or (value_of p) o 0) is in
    omega (arith, e, zero)
base_or_other p load w found store far e (last own lt earlier is none) =
    let mine = is_own_store p load own earlier in
    let same : w ≡ own = one_store p w own store mine.0 (e ∙ ap (λ (o : Option ℕ). option_map_or (value_of p) o 0) is) in
    let near : same_thread p load w ≡ true = ap (same_thread p load) same ∙ mine.1 in
    absurd cc

pub base_is_no_other : (p : Program) (load j : ℕ) → slice_get (others p load) j ≡ Some (base p load) → ⊥
base_is_no_other p load j e =
    let found : Contains (others p load) (base p load) = (j, slice_get_within (others p load) j (base p load) e, get_or_from_slice_get (others p load) j (base p load) (base p load) e) in
    let other = Contains-map_back (value_of p) (filter (λ n. writes_for p load n && not (same_thread p load n)) (all_nodes p)) (base p load) found in
    let parts = is_other_store p load other.0 (Contains-filter_back (λ n. writes_for p load n && not (same_thread p load n)) (all_nodes p) other.0 other.1).1 in
    base_or_other p load other.0 (base_store p load) parts.0 parts.1 other.2 (base_store_below p load)

-- the base is 0 or the value of a store
base_le_from : (p : Program) (load : ℕ) (found : Option ℕ) → LastBelow (own_earlier p load) (op_count p) found → option_map_or (value_of p) found 0 ≤ store_count p
base_le_from p load found (nothing is none) =
    let zero : option_map_or (value_of p) found 0 ≡ 0 = ap (λ (o : Option ℕ). option_map_or (value_of p) o 0) is in
    omega (arith, zero)
base_le_from p load found (last own lt earlier is none) =
    let given : option_map_or (value_of p) found 0 ≡ value_of p own = ap (λ (o : Option ℕ). option_map_or (value_of p) o 0) is in
    let few = value_of-le p own (is_own_store p load own earlier).0 in
    omega (arith, given, few)

pub base_le : (p : Program) (load : ℕ) → base p load ≤ store_count p
base_le p load = base_le_from p load (base_store p load) (base_store_below p load)

pub store_to_is_store : (x : ℕ) (op : Op) → is_store_to x op ≡ true → is_store op ≡ true
store_to_is_store x (Load word) h = absurd cc
store_to_is_store x (Store word) h = refl
store_to_is_store x Fence h = absurd cc

-- a load has at most as many candidates as the test has operations

one_at_most : (b c : Bool) → (b ≡ true → c ≡ false) → cond {A = ℕ} b 1 0 + cond {A = ℕ} c 1 0 ≤ 1
one_at_most true c h = let none = ap (λ d. cond {A = ℕ} d 1 0) (h refl) in omega (arith, none)
one_at_most false true h = omega arith
one_at_most false false h = omega arith

pub count_by_disjoint : {X : Type 0} (f g : X → Bool) → ((x : X) → f x ≡ true → g x ≡ false) → (xs : List X) → count_by f xs + count_by g xs ≤ length xs
count_by_disjoint f g never [] = omega arith
count_by_disjoint f g never (x ∷ xs) =
    let first = sum_by-cons (λ y. cond {A = ℕ} (f y) 1 0) x xs in
    let second = sum_by-cons (λ y. cond {A = ℕ} (g y) 1 0) x xs in
    let one = one_at_most (f x) (g x) (never x) in
    let rest = count_by_disjoint f g never xs in
    omega (arith, first, second, one, rest)

pub store_no_load : (x : ℕ) (op : Op) → is_store_to x op ≡ true → is_load op ≡ false
store_no_load x (Load word) h = absurd cc
store_no_load x (Store word) h = refl
store_no_load x Fence h = refl
