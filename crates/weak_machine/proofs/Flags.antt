-- Bits of words as flags of nodes.
use Rattle.std.proofs.Common.{◌≡◌, ◌∙◌, ℕ, ◌+◌, ◌-◌, ◌*◌, ◌/◌, ◌%◌, ◌^◌, ◌<◌, ◌≤◌, List, ◌++◌, map, length, get_or, set, Bool, true, false, Some, sym, ap, arith, refl, inl, inr}
use Rattle.std.specs.Prelude.{◌==◌, filter, replicate, slice_get, count_ones}
use Rattle.std.specs.Option.{option_map}
use Rattle.std.specs.Int.{bit_at}
use Rattle.std.proofs.lemmas.Bool.{cases_lt, false≢true}
use Rattle.std.proofs.lemmas.List.{get_or-replicate, get_or_past, length-replicate, length-append, length-map}
use Rattle.std.proofs.lemmas.List.Elements.{filter-append}
use Rattle.std.proofs.lemmas.List.Sums.{count_by-le-length, length-filter}
use Rattle.std.proofs.lemmas.Nat.Bits.{bit_at-zero}
use Rattle.std.proofs.lemmas.Option.{get_or_from_slice_get, slice_get-map, slice_get_within}
use Rattle.orders.specs.Orders.{nodes_below}
use Rattle.orders.proofs.Below.{length-below, all-below}
use Rattle.orders.proofs.Members.{Contains-filter_back}
use Rattle.weak_machine.specs.NodeSets.{has_bit, has_flag, bits_below, bits_of, set_below, flags_of, flagged, no_flags, ChangesBit, IsNodeSet}
use Rattle.sim_core.proofs.BelowLists.{filter-map, get_or-map_below, length-map_below, map-changed, map-same_below, slice_get-append_right}
use Rattle.test_lang.proofs.Places.{slice_get-append_left}
use Rattle.weak_machine.proofs.Filters.{below-add, filter-same_below, filter-none_below, filter-longer, filter-one_more}
use Rattle.weak_machine.proofs.WordBits.{count_ones-bits}

pub length-flags : (words : List ℕ) (nodes : ℕ) → length (flags_of words nodes) ≡ nodes
length-flags words nodes = length-map_below (has_bit words) nodes

pub flag-at : (words : List ℕ) (nodes n : ℕ) → n < nodes → has_flag (flags_of words nodes) n ≡ has_bit words n
flag-at words nodes n lt = get_or-map_below (has_bit words) nodes n false lt

-- a flag that is set is one of a node
pub flag-within : (flags : List Bool) (n : ℕ) → has_flag flags n ≡ true → n < length flags
flag-within flags n e = elim (cases_lt n (length flags)) [
  | inl lt ↦ lt
  | inr past ↦ let none : has_flag flags n ≡ false = get_or_past flags n false past in absurd (false≢true (sym none ∙ e))
]

pub flagged-flags : (words : List ℕ) (nodes : ℕ) → flagged (flags_of words nodes) ≡ set_below words nodes
flagged-flags words nodes =
    ap (λ (m : ℕ). filter (has_flag (flags_of words nodes)) (nodes_below m)) (length-flags words nodes)
    ∙ filter-same_below (has_flag (flags_of words nodes)) (has_bit words) nodes (λ k lt. flag-at words nodes k lt)

-- the empty set

zero_bit : (words : List ℕ) → ((k : ℕ) → get_or words k 0 ≡ 0) → (n : ℕ) → has_bit words n ≡ false
zero_bit words zeros n = ap (λ (w : ℕ). bit_at w (n % 64) == 1) (zeros (n / 64)) ∙ ap (λ (v : ℕ). v == 1) (bit_at-zero (n % 64))

pub zeros-of : (words : List ℕ) (n : ℕ) → words ≡ replicate n 0 → (k : ℕ) → get_or words k 0 ≡ 0
zeros-of words n e k = ap (λ (xs : List ℕ). get_or xs k 0) e ∙ elim (cases_lt k n) [
  | inl lt ↦ get_or-replicate n k 0 0 lt
  | inr past ↦ let long = length-replicate {A = ℕ} n 0 in get_or_past (replicate n 0) k 0 (omega (arith, past, long))
]

pub empty-set : (words : List ℕ) (nodes : ℕ) → nodes ≤ 2048 → length words ≡ nodes / 64 + 1 → ((k : ℕ) → get_or words k 0 ≡ 0) → IsNodeSet words nodes 0
empty-set words nodes few long zeros = record {
  few = few;
  room = long;
  none_behind = λ n le. zero_bit words zeros n;
  counted = sym (ap length (filter-none_below (has_bit words) nodes (λ k lt. zero_bit words zeros k)));
}

pub empty-flags : (words : List ℕ) (nodes : ℕ) → ((k : ℕ) → get_or words k 0 ≡ 0) → flags_of words nodes ≡ no_flags nodes
empty-flags words nodes zeros = map-same_below (has_bit words) (λ n. false) nodes (λ k lt. zero_bit words zeros k)

-- a node is taken in, or out

module _ (old new : List ℕ) (nodes count n : ℕ) (s : IsNodeSet old nodes count) (lt : n < nodes) where
  pub in-words : n / 64 < length old
  in-words = let room = s.room in omega (arith, room, lt)

  kept-behind : (value : Bool) → ChangesBit old new n value → (m : ℕ) → nodes ≤ m → has_bit new m ≡ false
  kept-behind value c m le = c.others m (λ e. omega (arith, e, le, lt)) ∙ s.none_behind m le

  pub changed-flags : (value : Bool) → ChangesBit old new n value → flags_of new nodes ≡ set (flags_of old nodes) n value
  changed-flags value c = map-changed (has_bit old) (has_bit new) nodes n lt (λ j below other. c.others j other) ∙ ap (set (flags_of old nodes) n) c.at

  pub inserted : ChangesBit old new n true → has_flag (flags_of old nodes) n ≡ false → IsNodeSet new nodes (count + 1)
  inserted c fails = record {
    few = s.few;
    room = c.room ∙ s.room;
    none_behind = kept-behind true c;
    counted =
        let more = filter-one_more (has_bit old) (has_bit new) nodes n lt (sym (flag-at old nodes n lt) ∙ fails) c.at (λ j below other. c.others j other) in
        let counted = s.counted in omega (arith, more, counted);
  }

  fewer : ChangesBit old new n false → has_flag (flags_of old nodes) n ≡ true → length (set_below old nodes) ≡ length (set_below new nodes) + 1
  fewer c has = filter-one_more (has_bit new) (has_bit old) nodes n lt c.at (sym (flag-at old nodes n lt) ∙ has) (λ j below other. sym (c.others j other))

  pub some-counted : ChangesBit old new n false → has_flag (flags_of old nodes) n ≡ true → 1 ≤ count
  some-counted c has = let less = fewer c has in let counted = s.counted in omega (arith, less, counted)

  pub removed : ChangesBit old new n false → has_flag (flags_of old nodes) n ≡ true → IsNodeSet new nodes (count - 1)
  removed c has = record {
    few = s.few;
    room = c.room ∙ s.room;
    none_behind = kept-behind false c;
    counted = let less = fewer c has in let counted = s.counted in omega (arith, less, counted);
  }

-- the count is at most that of the nodes
pub count-few : (words : List ℕ) (nodes count : ℕ) → IsNodeSet words nodes count → count ≤ nodes
count-few words nodes count s =
    let counted = s.counted in
    let same = length-filter (has_bit words) (nodes_below nodes) in
    let le = count_by-le-length (has_bit words) (nodes_below nodes) in
    let long = length-below nodes in
    omega (arith, counted, same, le, long)

-- what is listed of the nodes below one is below it
listed-below : (test : ℕ → Bool) (n k x : ℕ) → slice_get (filter test (nodes_below n)) k ≡ Some x → x < n
listed-below test n k x e =
    let there = Contains-filter_back test (nodes_below n) x (k, slice_get_within (filter test (nodes_below n)) k x e, get_or_from_slice_get (filter test (nodes_below n)) k x x e) in
    let below = all-below n there.0.0 x there.0.1 in let is = there.0.2 in omega (arith, below, is)

-- the bits of one word, and of those before it

word-is : (q r : ℕ) → r < 64 → (64 * q + r) / 64 ≡ q
word-is q r lt = omega (arith, lt)

place-is : (q r : ℕ) → r < 64 → (64 * q + r) % 64 ≡ r
place-is q r lt = omega (arith, lt)

bit-of_word : (words : List ℕ) (i r : ℕ) → r < 64 → has_bit words (64 * i + r) ≡ (bit_at (get_or words i 0) r == 1)
bit-of_word words i r lt =
    ap (λ (q : ℕ). bit_at (get_or words q 0) ((64 * i + r) % 64) == 1) (word-is i r lt)
    ∙ ap (λ (p : ℕ). bit_at (get_or words i 0) p == 1) (place-is i r lt)

below-word : (d : ℕ) → d ≡ 64 → (words : List ℕ) (i : ℕ) → set_below words (64 * i + d) ≡ set_below words (64 * i) ++ map (λ r. 64 * i + r) (bits_below d (get_or words i 0))
below-word d is words i =
    ap (filter (has_bit words)) (below-add (64 * i) d)
    ∙ filter-append (has_bit words) (nodes_below (64 * i)) (map (λ r. 64 * i + r) (nodes_below d))
    ∙ ap (λ (xs : List ℕ). set_below words (64 * i) ++ xs)
    (filter-map (has_bit words) (λ r. 64 * i + r) (nodes_below d)
    ∙ ap (map (λ r. 64 * i + r)) (filter-same_below (λ r. has_bit words (64 * i + r)) (λ r. bit_at (get_or words i 0) r == 1) d (λ k lt. bit-of_word words i k (omega (arith, lt, is)))))

pub set_below-word : (words : List ℕ) (i : ℕ) → set_below words (64 * i + 64) ≡ set_below words (64 * i) ++ map (λ r. 64 * i + r) (bits_of (get_or words i 0))
unfolding bits_of
set_below-word words i = below-word 64 refl words i

-- so far k - left bits were passed
abbrev pub ArePassed : List ℕ → ℕ → ℕ → ℕ → Type 0
ArePassed words i left k = left + length (set_below words (64 * i)) ≡ k

pub passed-more : (words : List ℕ) (i left k : ℕ) → get_or words i 0 < 2 ^ 64 → ArePassed words i left k → count_ones (get_or words i 0) ≤ left → ArePassed words (i + 1) (left - count_ones (get_or words i 0)) k
passed-more words i left k fits passed le =
    let next : 64 * (i + 1) ≡ 64 * i + 64 = omega arith in
    let more = ap length (ap (set_below words) next ∙ set_below-word words i) in
    let both = length-append (set_below words (64 * i)) (map (λ r. 64 * i + r) (bits_of (get_or words i 0))) in
    let same = length-map (bits_of (get_or words i 0)) (λ r. 64 * i + r) in
    let counted = count_ones-bits (get_or words i 0) fits in
    omega (arith, more, both, same, counted, le, passed)

pub nth-found : (words : List ℕ) (i left k r : ℕ) → i < length words → ArePassed words i left k → slice_get (bits_of (get_or words i 0)) left ≡ Some r → slice_get (set_below words (64 * length words)) k ≡ Some (64 * i + r)
nth-found words i left k r lt passed found =
    let place : k ≡ length (set_below words (64 * i)) + left = omega (arith, passed) in
    let more : 64 * length words ≡ 64 * i + 64 + (64 * length words - (64 * i + 64)) = omega (arith, lt) in
    ap (λ (xs : List ℕ). slice_get (filter (has_bit words) xs) k) (ap nodes_below more ∙ below-add (64 * i + 64) (64 * length words - (64 * i + 64)))
    ∙ ap (λ (xs : List ℕ). slice_get xs k) (filter-append (has_bit words) (nodes_below (64 * i + 64)) (map (λ j. 64 * i + 64 + j) (nodes_below (64 * length words - (64 * i + 64)))))
    ∙ slice_get-append_left (set_below words (64 * i + 64)) (filter (has_bit words) (map (λ j. 64 * i + 64 + j) (nodes_below (64 * length words - (64 * i + 64))))) k (64 * i + r)
    (ap (λ (xs : List ℕ). slice_get xs k) (set_below-word words i)
    ∙ ap (slice_get (set_below words (64 * i) ++ map (λ j. 64 * i + j) (bits_of (get_or words i 0)))) place
    ∙ slice_get-append_right (set_below words (64 * i)) (map (λ j. 64 * i + j) (bits_of (get_or words i 0))) left
    ∙ slice_get-map (λ j. 64 * i + j) (bits_of (get_or words i 0)) left
    ∙ ap (option_map (λ j. 64 * i + j)) found)

-- the bits of all words are those of the nodes
pub all-words : (words : List ℕ) (nodes count : ℕ) → IsNodeSet words nodes count → set_below words (64 * length words) ≡ set_below words nodes
all-words words nodes count s =
    let room = s.room in
    let more : 64 * length words ≡ nodes + (64 * length words - nodes) = omega (arith, room) in
    ap (set_below words) more ∙ filter-longer (has_bit words) nodes (64 * length words - nodes) s.none_behind

pub nth-within : (words : List ℕ) (nodes k x : ℕ) → slice_get (set_below words nodes) k ≡ Some x → x < nodes
nth-within words nodes k x e = listed-below (has_bit words) nodes k x e

-- all words were passed
pub none-left : (words : List ℕ) (left k : ℕ) → ArePassed words (length words) left k → k < length (set_below words (64 * length words)) → ⊥
none-left words left k passed lt = omega (arith, passed, lt)
