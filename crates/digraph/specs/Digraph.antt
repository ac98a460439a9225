-- A directed graph as the list of its edges, in the order of adding.
use Rattle.std.specs.Prelude.{◌≡◌, ◌≢◌, ◌==◌, ℕ, suc, ◌^◌, ◌<◌, ◌≤◌, List, Option, Some, None, All, Contains, count_by, filter, map, sum_by, length, slice_index_or}

-- The nodes are the numbers below `nodes`, and there is room for `room` edges. An edge is the pair of its source and its target.
pub record Digraph : Type 0 where
  pub nodes : ℕ
  pub room : ℕ
  pub edges : List (ℕ × ℕ)

-- Each edge leads between nodes, there are no more edges than there is room for, and the numbers fit 32 bits.
pub record IsDigraph (g : Digraph) : Type 0 where
  pub ends : All (λ e. (e.0 < g.nodes) × (e.1 < g.nodes)) g.edges
  pub room : length g.edges ≤ g.room
  pub few_nodes : g.nodes < 2 ^ 32
  pub few_edges : g.room < 2 ^ 32

-- the node that the edge with this number leads from, and the one that it leads to
abbrev pub source_of : List (ℕ × ℕ) → ℕ → ℕ
source_of edges number = (slice_index_or edges number (0, 0)).0

abbrev pub target_of : List (ℕ × ℕ) → ℕ → ℕ
target_of edges number = (slice_index_or edges number (0, 0)).1

-- some edge leads from a to b: the set of edges
abbrev pub HasEdge : List (ℕ × ℕ) → ℕ → ℕ → Type 0
HasEdge edges a b = Contains edges (a, b)

-- how many edges lead from the node, and how many lead to it
abbrev pub out_degree : List (ℕ × ℕ) → ℕ → ℕ
out_degree edges node = count_by (λ e. e.0 == node) edges

abbrev pub in_degree : List (ℕ × ℕ) → ℕ → ℕ
in_degree edges node = count_by (λ e. e.1 == node) edges

-- the targets of the edges from the node, in the order of adding
abbrev pub targets_from : List (ℕ × ℕ) → ℕ → List ℕ
targets_from edges node = map (λ e. e.1) (filter (λ e. e.0 == node) edges)

-- the sums of these over the nodes of a list
abbrev pub edges_out : List (ℕ × ℕ) → List ℕ → ℕ
edges_out edges nodes = sum_by (out_degree edges) nodes

abbrev pub edges_in : List (ℕ × ℕ) → List ℕ → ℕ
edges_in edges nodes = sum_by (in_degree edges) nodes

-- no number from the first one on and below the bound has the key
abbrev pub NoneHas : (ℕ → ℕ) → ℕ → ℕ → ℕ → Type 0
NoneHas key_of key first bound = (k : ℕ) → first ≤ k → k < bound → key_of k ≢ key

-- the last number below the bound that has the key; none exactly where no number there has it
abbrev pub IsLastBelow : (ℕ → ℕ) → ℕ → ℕ → Option ℕ → Type 0
IsLastBelow key_of key bound None = NoneHas key_of key 0 bound
IsLastBelow key_of key bound (Some k) = (k < bound) × (key_of k ≡ key) × NoneHas key_of key (suc k) bound

-- the last edge from the node among those with a number below the bound, and the last one to it
abbrev pub IsLastOut : List (ℕ × ℕ) → ℕ → ℕ → Option ℕ → Type 0
IsLastOut edges node bound = IsLastBelow (source_of edges) node bound

abbrev pub IsLastIn : List (ℕ × ℕ) → ℕ → ℕ → Option ℕ → Type 0
IsLastIn edges node bound = IsLastBelow (target_of edges) node bound
