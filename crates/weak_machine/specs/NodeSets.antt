-- Sets of nodes as bits of words, and as flags.
use Rattle.std.specs.Prelude.{◌≡◌, ◌≢◌, ℕ, ◌+◌, ◌/◌, ◌%◌, ◌≤◌, List, Bool, false, ◌==◌, length, map, filter, slice_index, slice_index_or}
use Rattle.std.specs.Int.{bit_at}
use Rattle.orders.specs.Orders.{nodes_below}

-- whether the bit of the number is set in words of 64 bits
abbrev pub has_bit : List ℕ → ℕ → Bool
has_bit words n = bit_at (slice_index words (n / 64)) (n % 64) == 1

-- the bits below one that are set in a word, rising
abbrev pub bits_below : ℕ → ℕ → List ℕ
bits_below n word = filter (λ k. bit_at word k == 1) (nodes_below n)

-- all of a word of 64 bits
unfoldable pub bits_of : ℕ → List ℕ
bits_of word = bits_below 64 word

-- the nodes below one whose bits are set
abbrev pub set_below : List ℕ → ℕ → List ℕ
set_below words nodes = filter (has_bit words) (nodes_below nodes)

-- a flag for each of so many nodes
abbrev pub flags_of : List ℕ → ℕ → List Bool
flags_of words nodes = map (has_bit words) (nodes_below nodes)

-- no flag is set
abbrev pub no_flags : ℕ → List Bool
no_flags nodes = map (λ n. false) (nodes_below nodes)

abbrev pub has_flag : List Bool → ℕ → Bool
has_flag flags n = slice_index_or flags n false

-- the nodes whose flag is set, rising
abbrev pub flagged : List Bool → List ℕ
flagged flags = filter (has_flag flags) (nodes_below (length flags))

-- one bit is given a value, and the others stay
pub record ChangesBit (old new : List ℕ) (n : ℕ) (value : Bool) : Type 0 where
  pub room : length new ≡ length old
  pub at : has_bit new n ≡ value
  pub others : (m : ℕ) → m ≢ n → has_bit new m ≡ has_bit old m

-- The words have a bit for each node and none behind, and the count is that of the bits that are set.
pub record IsNodeSet (words : List ℕ) (nodes count : ℕ) : Type 0 where
  pub few : nodes ≤ 2048
  pub room : length words ≡ nodes / 64 + 1
  pub none_behind : (n : ℕ) → nodes ≤ n → has_bit words n ≡ false
  pub counted : count ≡ length (set_below words nodes)
