-- A list of keys, in which each is linked to the place before it that has the same key.
use Rattle.std.specs.Prelude.{◌≡◌, ◌==◌, ℕ, ◌^◌, ◌<◌, ◌≤◌, List, Option, Some, None, All, if◌then◌else◌, length, take, slice_index}
use Rattle.std.specs.List.{zip}
use Rattle.digraph.specs.AtHand.{TellAtHand}
use Rattle.digraph.specs.Digraph.{Digraph, IsLastBelow}
use Rattle.digraph.specs.declared.links.TheConstants.{NONE}

-- The keys are numbers below `kinds`, and there is room for `room` of them.
pub record KeyList : Type 0 where
  pub kinds : ℕ
  pub room : ℕ
  pub keys : List ℕ

-- Each key is of its kind, there are no more keys than there is room for, and the numbers fit 32 bits.
pub record IsKeyList (l : KeyList) : Type 0 where
  pub kinds : All (λ key. key < l.kinds) l.keys
  pub room : length l.keys ≤ l.room
  pub few_kinds : l.kinds < 2 ^ 32
  pub few_keys : l.room < 2 ^ 32

-- the first keys of the array, where each kind has a last place
abbrev pub key_list_of : ℕ → List ℕ → List ℕ → KeyList
key_list_of count keys last = record { kinds = length last; room = length keys; keys = take count keys }

-- The keys of the one list are sources, and those of the other are the targets of the same edges.
pub record ArePaired (sources targets : KeyList) : Type 0 where
  pub sound_sources : IsKeyList sources
  pub sound_targets : IsKeyList targets
  pub kinds : targets.kinds ≡ sources.kinds
  pub room : targets.room ≡ sources.room
  pub count : length targets.keys ≡ length sources.keys

-- the graph whose edges have these sources and these targets
abbrev pub digraph_of : KeyList → KeyList → Digraph
digraph_of sources targets = record { nodes = sources.kinds; room = sources.room; edges = zip sources.keys targets.keys }

-- The arrays tell of the edges with these ends.
pub record IsGraph (sources targets : KeyList) (near_targets out_degrees in_degrees : List ℕ) : Type 0 where
  pub paired : ArePaired sources targets
  pub at_hand : TellAtHand sources.kinds (zip sources.keys targets.keys) near_targets out_degrees in_degrees

-- the place that a link stands for
abbrev pub place_of : ℕ → Option ℕ
place_of link = if link == NONE then None else Some link

-- Arrays of links for the first keys of the list: the last place of each key, and for each place the one before it with the same key.
pub record IsLinked (count : ℕ) (keys last previous : List ℕ) : Type 0 where
  pub few_kinds : length last < 2 ^ 32
  pub few_keys : length keys < 2 ^ 32
  pub same_room : length previous ≡ length keys
  pub room : count ≤ length keys
  pub inside : (k : ℕ) → k < count → slice_index keys k < length last
  pub lasts : (key : ℕ) → key < length last → IsLastBelow (slice_index keys) key count (place_of (slice_index last key))
  pub previous_ones : (k : ℕ) → k < count → IsLastBelow (slice_index keys) (slice_index keys k) k (place_of (slice_index previous k))
