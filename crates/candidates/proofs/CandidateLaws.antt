-- Laws of candidates: no value stands twice among those of a load, and there are few of them.
use Rattle.std.proofs.Common.{◌≡◌, ◌∙◌, ℕ, zero, suc, ◌<◌, ◌≤◌, true, false, not, length, Option, None, Some, refl, ap, arith, sym}
use Rattle.std.specs.Prelude.{◌==◌, slice_get}
use Rattle.std.specs.Option.{option_map}
use Rattle.std.proofs.lemmas.Bool.{and_parts}
use Rattle.std.proofs.lemmas.List.{length-map}
use Rattle.std.proofs.lemmas.Option.{same_Some, slice_get-get_or, slice_get-map}
use Rattle.test_lang.specs.declared.op.Op.{Op}
use Rattle.test_lang.specs.declared.op.Op.TheVariants.{Load, Store, Fence}
use Rattle.test_lang.specs.Program.{Program, nodes, op_count, passes}
use Rattle.test_lang.specs.Values.{is_load, is_store, is_store_to, is_load_at, is_store_at, load_count, load_nodes, store_count, value_of}
use Rattle.test_lang.specs.Runs.{base, others, candidates}
use Rattle.test_lang.proofs.Places.{length-places_all, passing, passing-lt, place_at, places}
use Rattle.test_lang.proofs.Ranks.{length-load_nodes, load_nodes-is_load, one_store, value_of-le}
use Rattle.candidates.specs.ByRank.{candidates_at, load_at}
use Rattle.candidates.proofs.LoadCandidates.{other_store, others-are}
use Rattle.candidates.proofs.Bases.{base_is_no_other, base_le, count_by_disjoint, store_no_load, store_to_is_store}

-- the word and the thread of a load

record IsLoad (p : Program) (load : ℕ) : Type 0 where
  thread : ℕ
  word : ℕ
  node : slice_get (nodes p) load ≡ Some (thread, Load word)

load_op : (p : Program) (load : ℕ) (thread : ℕ) (op : Op) → slice_get (nodes p) load ≡ Some (thread, op) → is_load op ≡ true → IsLoad p load
load_op p load thread (Load word) e h = record { thread = thread; word = word; node = e }
load_op p load thread (Store word) e h = absurd cc
load_op p load thread Fence e h = absurd cc

load_at_node : (p : Program) (load : ℕ) → is_load_at p load ≡ true → IsLoad p load
load_at_node p load h = of (slice_get (nodes p) load) refl h where
  of : (found : Option (ℕ × Op)) → slice_get (nodes p) load ≡ found → passes (λ node. is_load node.1) found ≡ true → IsLoad p load
  of None is h = absurd cc
  of (Some node) is h = load_op p load node.0 node.1 is h

-- a store of another thread, by its place among the others

record IsOther (p : Program) (t x i value : ℕ) : Type 0 where
  node : ℕ
  is_store : is_store_at p node ≡ true
  before : passing (other_store t x) (nodes p) node ≡ i
  value_is : value_of p node ≡ value

other_passes : (t x : ℕ) (found : Option (ℕ × Op)) → passes (other_store t x) found ≡ true → passes (λ node. is_store node.1) found ≡ true
other_passes t x None h = absurd cc
other_passes t x (Some node) h = store_to_is_store x node.1 (and_parts (is_store_to x node.1) (not (t == node.0)) h).0

other_at : (p : Program) (load t x i value : ℕ) → slice_get (nodes p) load ≡ Some (t, Load x) → slice_get (others p load) i ≡ Some value → IsOther p t x i value
other_at p load t x i value is e = of (slice_get (places (other_store t x) (nodes p) (op_count p)) i) refl
    (sym (slice_get-map (value_of p) (places (other_store t x) (nodes p) (op_count p)) i) ∙ ap (λ xs. slice_get xs i) (sym (others-are p load t x is)) ∙ e) where
      of : (found : Option ℕ) → slice_get (places (other_store t x) (nodes p) (op_count p)) i ≡ found → option_map (value_of p) found ≡ Some value → IsOther p t x i value
      of None at v = absurd cc
      of (Some n) at v =
          let place = place_at (other_store t x) (nodes p) (op_count p) i n (omega arith) at in
          record { node = n; is_store = other_passes t x (slice_get (nodes p) n) place.passed; before = place.place_is; value_is = same_Some (value_of p n) value v }

others_distinct : (p : Program) (load t x i j value : ℕ) → slice_get (nodes p) load ≡ Some (t, Load x) → slice_get (others p load) i ≡ Some value → slice_get (others p load) j ≡ Some value → i ≡ j
others_distinct p load t x i j value is e f =
    let a = other_at p load t x i value is e in
    let b = other_at p load t x j value is f in
    let same = one_store p a.node b.node a.is_store b.is_store (a.value_is ∙ sym b.value_is) in
    sym a.before ∙ ap (passing (other_store t x) (nodes p)) same ∙ b.before

-- no value stands twice
pub candidates_distinct : (p : Program) (load i j value : ℕ) → is_load_at p load ≡ true → slice_get (candidates p load) i ≡ Some value → slice_get (candidates p load) j ≡ Some value → i ≡ j
candidates_distinct p load zero zero value h e f = refl
candidates_distinct p load zero (suc j) value h e f = absurd (base_is_no_other p load j (f ∙ ap Some (sym (same_Some (base p load) value e))))
candidates_distinct p load (suc i) zero value h e f = absurd (base_is_no_other p load i (e ∙ ap Some (sym (same_Some (base p load) value f))))
candidates_distinct p load (suc i) (suc j) value h e f = let l = load_at_node p load h in ap suc (others_distinct p load l.thread l.word i j value l.node e f)

-- a load has at most as many candidates as the test has operations

other_no_load : (t x : ℕ) (node : ℕ × Op) → other_store t x node ≡ true → is_load node.1 ≡ false
other_no_load t x node h = store_no_load x node.1 (and_parts (is_store_to x node.1) (not (t == node.0)) h).0

pub candidate_count-le : (p : Program) (load : ℕ) → is_load_at p load ≡ true → length (candidates p load) ≤ op_count p
candidate_count-le p load h =
    let l = load_at_node p load h in
    let listed = ap length (others-are p load l.thread l.word l.node) in
    let mapped = length-map (places (other_store l.thread l.word) (nodes p) (op_count p)) (value_of p) in
    let counted = length-places_all (other_store l.thread l.word) (nodes p) in
    let both = count_by_disjoint (other_store l.thread l.word) (λ node. is_load node.1) (other_no_load l.thread l.word) (nodes p) in
    let some = passing-lt (λ node. is_load node.1) (nodes p) load h in
    omega (arith, listed, mapped, counted, both, some)

pub rank_is_load : (p : Program) (rank : ℕ) → rank < load_count p → is_load_at p (load_at p rank) ≡ true
rank_is_load p rank lt = let long = length-load_nodes p in load_nodes-is_load p rank (load_at p rank) (slice_get-get_or (load_nodes p) rank 0 (omega (arith, long, lt)))

pub count_at-le : (p : Program) (rank : ℕ) → rank < load_count p → length (candidates_at p rank) ≤ op_count p
count_at-le p rank lt = candidate_count-le p (load_at p rank) (rank_is_load p rank lt)

-- a candidate is 0 or the value of a store
pub candidate_le : (p : Program) (load i value : ℕ) → is_load_at p load ≡ true → slice_get (candidates p load) i ≡ Some value → value ≤ store_count p
candidate_le p load zero value h e = let few = base_le p load in let same = same_Some (base p load) value e in omega (arith, few, same)
candidate_le p load (suc i) value h e =
    let l = load_at_node p load h in
    let other = other_at p load l.thread l.word i value l.node e in
    let few = value_of-le p other.node other.is_store in
    let is = other.value_is in
    omega (arith, few, is)
