-- The order in which a depth-first search along the edges finishes nodes.
use Rattle.std.specs.Prelude.{◌≡◌, ◌≢◌, ◌↔◌, ℕ, zero, suc, ◌<◌, ◌≤◌, List, ◌++◌, Bool, true, length, slice_index, take, drop, Contains, AllPairs}
use Rattle.orders.specs.Paths.{Reach}
use Rattle.digraph.specs.Digraph.{HasEdge, out_degree, source_of, target_of}
use Rattle.full_sort.specs.Waiting.{is_marked}

-- The list has exactly the nodes of which the fact holds, each once.
pub record IsListOf (P : ℕ → Type 0) (list : List ℕ) : Type 0 where
  pub once : AllPairs (λ a b. a ≢ b) list
  pub same : (t : ℕ) → P t ↔ Contains list t

-- Where an edge leads from a node to a later one, the later one reaches it and all that stand between.
abbrev pub ReachesBack : (ℕ → ℕ → Type 0) → List ℕ → Type 0
ReachesBack E order = (i k j : ℕ) → i ≤ k → k < j → j < length order → E (slice_index order i) (slice_index order j) → Reach E (slice_index order j) (slice_index order k)

-- All nodes below n, each once, as a depth-first search may finish them.
pub record IsFinishingOrder (E : ℕ → ℕ → Type 0) (n : ℕ) (order : List ℕ) : Type 0 where
  pub nodes : IsListOf (λ t. t < n) order
  pub back : ReachesBack E order

-- A search has marked the nodes that it finished and those of its path, whose last node stands first.
-- No edge leads from a finished node to one that isn't marked, and each node of the path reaches those that stand before it.
-- Were the path finished as it stands, the order would be one of a search.
pub record IsSearch (E : ℕ → ℕ → Type 0) (marks : List Bool) (finished path : List ℕ) : Type 0 where
  pub found : IsListOf (λ t. is_marked marks t ≡ true) (finished ++ path)
  pub closed : (a b : ℕ) → Contains finished a → E a b → is_marked marks b ≡ true
  pub linked : (i j : ℕ) → i < j → j < length path → Reach E (slice_index path j) (slice_index path i)
  pub back : ReachesBack E (finished ++ path)

-- the edges of the node from this number on were looked at: all from the last one on, or none
abbrev pub first_seen : List (ℕ × ℕ) → ℕ → ℕ
first_seen edges zero = length edges
first_seen edges (suc last) = last

-- how many edges of the node were not looked at
abbrev pub unseen : List (ℕ × ℕ) → ℕ → ℕ → ℕ
unseen edges node last = out_degree (take (first_seen edges last) edges) node

-- The edges of the node that were looked at lead to marked nodes. The last one of them is kept, one higher, and 0 where there is none.
pub record HasSeen (edges : List (ℕ × ℕ)) (marks : List Bool) (node last : ℕ) : Type 0 where
  pub inside : last ≤ length edges
  pub own : (e : ℕ) → last ≡ suc e → source_of edges e ≡ node
  pub marked : (e : ℕ) → first_seen edges last ≤ e → e < length edges → source_of edges e ≡ node → is_marked marks (target_of edges e) ≡ true

-- A search in arrays: the finished nodes stand at the front of the order, and the path at its back.
pub record IsSearchAt (edges : List (ℕ × ℕ)) (marks : List Bool) (seen order : List ℕ) (done top : ℕ) : Type 0 where
  pub parts : done ≤ top
  pub room : top ≤ length order
  pub search : IsSearch (HasEdge edges) marks (take done order) (drop top order)
  pub seen_edges : (i : ℕ) → top ≤ i → i < length order → HasSeen edges marks (slice_index order i) (slice_index seen i)
