-- What is at hand of the edges from each node and to each node.
use Rattle.std.specs.Prelude.{◌≡◌, ℕ, ◌+◌, ◌*◌, ◌<◌, List, length, slice_index, slice_index_or}
use Rattle.digraph.specs.Digraph.{in_degree, out_degree, targets_from}

-- Of the four places of each node the first three have the targets of its first edges, and the number of nodes where there are fewer.
pub record HasNear (nodes : ℕ) (edges : List (ℕ × ℕ)) (near : List ℕ) : Type 0 where
  pub long : length near ≡ 4 * nodes
  pub at : (node k : ℕ) → node < nodes → k < 3 → slice_index near (4 * node + k) ≡ slice_index_or (targets_from edges node) k nodes

-- each node's degree stands at its place
pub record HasDegrees (nodes : ℕ) (degree : ℕ → ℕ) (counts : List ℕ) : Type 0 where
  pub long : length counts ≡ nodes
  pub at : (node : ℕ) → node < nodes → slice_index counts node ≡ degree node

-- The arrays tell what is at hand of the edges.
pub record TellAtHand (nodes : ℕ) (edges : List (ℕ × ℕ)) (near_targets out_degrees in_degrees : List ℕ) : Type 0 where
  pub near : HasNear nodes edges near_targets
  pub outs : HasDegrees nodes (out_degree edges) out_degrees
  pub ins : HasDegrees nodes (in_degree edges) in_degrees
