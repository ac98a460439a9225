-- How far nodes are from a node along a set of edges.
use Rattle.std.specs.Prelude.{◌≡◌, ◌≢◌, ◌↔◌, ℕ, zero, suc, ◌+◌, ◌<◌, ◌≤◌, List, length, slice_index, Contains}
use Rattle.orders.specs.Paths.{Linked}
use Rattle.digraph.specs.Marks.{MarksWhere}

-- a path of so many edges leads from the node to the end
abbrev pub HasPath : (ℕ → ℕ → Type 0) → ℕ → ℕ → ℕ → Type 0
HasPath E x end count = (between : List ℕ) × Linked E x between end × (length between + 1 ≡ count)

-- the shortest path from the node to the end has so many edges
pub record IsShortest (E : ℕ → ℕ → Type 0) (x end count : ℕ) : Type 0 where
  pub path : HasPath E x end count
  pub shortest : (between : List ℕ) → Linked E x between end → count ≤ length between + 1

-- Each node below n has its distance from the end, as far as that is at most so much, and otherwise 0.
pub record IsLevelled (E : ℕ → ℕ → Type 0) (n end most : ℕ) (levels : List ℕ) : Type 0 where
  pub whole : length levels ≡ n
  pub few : (x : ℕ) → x < n → slice_index levels x ≤ most
  pub reached : (x : ℕ) → x < n → slice_index levels x ≢ 0 → IsShortest E x end (slice_index levels x)
  pub others : (x : ℕ) → x < n → slice_index levels x ≡ 0 → (between : List ℕ) → Linked E x between end → most < length between + 1

-- some node of the list has an edge from the node
abbrev pub Touches : (ℕ → ℕ → Type 0) → ℕ → List ℕ → Type 0
Touches E x list = (y : ℕ) × Contains list y × E x y

-- a level more: each node that had none and touches the list has it now
abbrev pub AddsLevel : (ℕ → ℕ → Type 0) → ℕ → List ℕ → List ℕ → List ℕ → Type 0
AddsLevel E level list old new = MarksWhere (λ x. Touches E x list) level old new

-- The nodes from which the shortest path to the end has so many edges: the end alone for none.
abbrev pub IsFront : (ℕ → ℕ → Type 0) → ℕ → ℕ → List ℕ → Type 0
IsFront E end zero list = (y : ℕ) → Contains list y ↔ (y ≡ end)
IsFront E end (suc k) list = (y : ℕ) → Contains list y ↔ IsShortest E y end (suc k)
