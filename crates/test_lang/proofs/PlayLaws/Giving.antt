-- Why a load gives a value where it stands in an order.
use Rattle.std.proofs.Common.{◌≡◌, ◌∙◌, ℕ, ◌<◌, ◌≤◌, List, [], ◌∷◌, Bool, true, false, not, ◌&&◌, cond, map, take, length, get_or, Contains, arith, refl, sym, ap, subst, Option, None, Some}
use Rattle.std.specs.Prelude.{filter, nat_lt}
use Rattle.std.specs.Option.{option_map_or}
use Rattle.std.proofs.lemmas.List.{get_or-take, get_or_default, length-take-le}
use Rattle.std.proofs.lemmas.Option.{same_Some}
use Rattle.std.proofs.lemmas.Bool.Decides.{Decides-ltb}
use Rattle.test_lang.specs.Program.{Program}
use Rattle.test_lang.specs.Values.{is_load_at, is_store_at, same_thread, one_word, value_of, word_at}
use Rattle.test_lang.specs.Runs.{writes_for, own_earlier, base, base_store}
use Rattle.test_lang.specs.Play.States.{has, last_value, stores_to, value_now}
use Rattle.test_lang.specs.Play.Machines.{base_waits}
use Rattle.test_lang.specs.Play.Explanations.{given}
use Rattle.test_lang.proofs.BaseStores.{base_store_own}
use Rattle.test_lang.proofs.PlayLaws.Lasts.{lacks, both, LastIn, last_in, has_true, has_false, true_has}
use Rattle.test_lang.proofs.PlayLaws.Lasts.LastIn.{nothing, last}
use Rattle.test_lang.proofs.PlayLaws.Words.{stores_to-as}

-- what a store is that stands as a base

pub record OwnStore (p : Program) (load n : ℕ) : Type 0 where
  pub is_store : is_store_at p n ≡ true
  pub word : one_word p load n ≡ true
  pub thread : same_thread p load n ≡ true
  pub earlier : n < load

pub own_store : (p : Program) (load n : ℕ) → own_earlier p load n ≡ true → OwnStore p load n
own_store p load n h =
    let parts = both (writes_for p load n) (same_thread p load n && nat_lt n load) h in
    let first = both (is_store_at p n) (one_word p load n) parts.0 in
    let second = both (same_thread p load n) (nat_lt n load) parts.1 in
    record { is_store = first.0; word = first.1; thread = second.0; earlier = (Decides-ltb n load).0 second.1 }

pub base_own : (p : Program) (load n : ℕ) → base_store p load ≡ Some n → OwnStore p load n
base_own p load n is = own_store p load n (base_store_own p load n is)

pub base_value : (p : Program) (load n : ℕ) → base_store p load ≡ Some n → value_of p n ≡ base p load
base_value p load n is = sym (ap (λ o. option_map_or (value_of p) o 0) is)

pub data Why (p : Program) (done : List ℕ) (load value : ℕ) : Type 0 where
  forwarded : (store : ℕ) → base_store p load ≡ Some store → value ≡ value_of p store → (Contains done store → ⊥) → Why p done load value
  from_memory : ((store : ℕ) → base_store p load ≡ Some store → Contains done store) → LastIn (writes_for p load) (value_of p) done value → Why p done load value

-- what stands in memory for the load's word, told by the stores to the word of the load
filter_like : (f g : ℕ → Bool) → ((n : ℕ) → f n ≡ g n) → (xs : List ℕ) → filter f xs ≡ filter g xs
filter_like f g like [] = refl
filter_like f g like (x ∷ xs) = ap (λ b. cond b (x ∷ filter f xs) (filter f xs)) (like x) ∙ ap (λ (ys : List ℕ). cond (g x) (x ∷ ys) ys) (filter_like f g like xs)

pub in_memory : (p : Program) (done : List ℕ) (load : ℕ) → is_load_at p load ≡ true → value_now p done (word_at p load) ≡ last_value (map (value_of p) (filter (writes_for p load) done))
in_memory p done load is = ap (λ (xs : List ℕ). last_value (map (value_of p) xs)) (filter_like (stores_to p (word_at p load)) (writes_for p load) (stores_to-as p load is) done)

memory_last : (p : Program) (done : List ℕ) (load : ℕ) → is_load_at p load ≡ true → LastIn (writes_for p load) (value_of p) done (value_now p done (word_at p load))
memory_last p done load is = subst (LastIn (writes_for p load) (value_of p) done) (sym (in_memory p done load is)) (last_in (writes_for p load) (value_of p) done)

-- a base that waits is given, and otherwise what memory has

pub given_base : (p : Program) (done : List ℕ) (load w : ℕ) → base_store p load ≡ Some w → (Contains done w → ⊥) → base p load ≡ given p done load
given_base p done load w is out = ap (λ b. cond b (base p load) (value_now p done (word_at p load))) (sym waits) where
  waits : base_waits p done load ≡ true
  waits = ap (λ o. option_map_or (λ store. not (has done store)) o false) is ∙ lacks done w out

pub given_memory : (p : Program) (done : List ℕ) (load : ℕ) → ((w : ℕ) → base_store p load ≡ Some w → Contains done w) → value_now p done (word_at p load) ≡ given p done load
given_memory p done load all = ap (λ b. cond b (base p load) (value_now p done (word_at p load))) (sym (idle (base_store p load) refl)) where
  idle : (found : Option ℕ) → base_store p load ≡ found → option_map_or (λ store. not (has done store)) found false ≡ false
  idle None e = refl
  idle (Some w) e = ap not (true_has done w (all w e))

pub why : (p : Program) (done : List ℕ) (load : ℕ) → is_load_at p load ≡ true → Why p done load (given p done load)
why p done load is = at (base_store p load) refl where
  memory : ((w : ℕ) → base_store p load ≡ Some w → Contains done w) → Why p done load (given p done load)
  memory all = subst (Why p done load) (given_memory p done load all) (from_memory all (memory_last p done load is))

  by : (w : ℕ) → base_store p load ≡ Some w → (b : Bool) → has done w ≡ b → Why p done load (given p done load)
  by w e true h = memory (λ other same. subst (Contains done) (same_Some w other (sym e ∙ same)) (has_true done w h))
  by w e false h =
      let out = has_false done w h in
      forwarded w e (sym (given_base p done load w e out) ∙ sym (base_value p load w e)) out

  at : (found : Option ℕ) → base_store p load ≡ found → Why p done load (given p done load)
  at None e = memory (λ w same. let some : None ≡ Some w = sym e ∙ same in absurd cc)
  at (Some w) e = by w e (has done w) refl

-- the same by places of an order

pub data WhyAt (p : Program) (order : List ℕ) (j load value : ℕ) : Type 0 where
  before : (store : ℕ) → base_store p load ≡ Some store → value ≡ value_of p store → ((i : ℕ) → i < j → get_or order i 0 ≡ store → ⊥) → WhyAt p order j load value
  initial : value ≡ 0 → ((i : ℕ) → i < j → writes_for p load (get_or order i 0) ≡ false) → ((store : ℕ) → base_store p load ≡ Some store → (i : ℕ) × (i < j) × (get_or order i 0 ≡ store)) → WhyAt p order j load value
  read : (k : ℕ) → k < j → writes_for p load (get_or order k 0) ≡ true → value ≡ value_of p (get_or order k 0) → ((i : ℕ) → k < i → i < j → writes_for p load (get_or order i 0) ≡ false)
      → ((store : ℕ) → base_store p load ≡ Some store → (i : ℕ) × (i < j) × (get_or order i 0 ≡ store)) → WhyAt p order j load value

pub in_front : (order : List ℕ) (j x : ℕ) → j ≤ length order → Contains (take j order) x → (i : ℕ) × (i < j) × (get_or order i 0 ≡ x)
in_front order j x le there =
    let lt = there.1 in
    let long = length-take-le j order le in
    let below : there.0 < j = omega (arith, lt, long) in
    (there.0, below, sym (get_or-take j order there.0 0 below) ∙ get_or_default (take j order) there.0 0 x lt ∙ there.2)

pub front_has : (order : List ℕ) (i j : ℕ) → i < j → j ≤ length order → Contains (take j order) (get_or order i 0)
front_has order i j lt le =
    let long = length-take-le j order le in
    let below : i < length (take j order) = omega (arith, lt, long) in
    (i, below, get_or_default (take j order) i (get_or order i 0) 0 below ∙ get_or-take j order i 0 lt)

places : (p : Program) (order : List ℕ) (j load value : ℕ) → j ≤ length order → Why p (take j order) load value → WhyAt p order j load value
places p order j load value le (forwarded store is v waits) =
    before store is v (λ i lt e. waits (subst (Contains (take j order)) e (front_has order i j lt le)))
places p order j load value le (from_memory done (nothing none z rest)) =
    let long = length-take-le j order le in
    initial z (λ i lt. subst (λ (n : ℕ). writes_for p load n ≡ false) (get_or-take j order i 0 lt) (rest i (omega (arith, lt, long)))) (λ store is. in_front order j store le (done store is))
places p order j load value le (from_memory done (last k lt t v rest)) =
    let long = length-take-le j order le in
    let below : k < j = omega (arith, lt, long) in
    let same = get_or-take j order k 0 below in
    read k below (subst (λ (n : ℕ). writes_for p load n ≡ true) same t) (v ∙ ap (value_of p) same)
    (λ i above lt. subst (λ (n : ℕ). writes_for p load n ≡ false) (get_or-take j order i 0 lt) (rest i above (omega (arith, lt, long)))) (λ store is. in_front order j store le (done store is))

pub why_at : (p : Program) (order : List ℕ) (j load : ℕ) → is_load_at p load ≡ true → j ≤ length order → WhyAt p order j load (given p (take j order) load)
why_at p order j load is le = places p order j load (given p (take j order) load) le (why p (take j order) load is)
