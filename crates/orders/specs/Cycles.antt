-- Cycles of a set of edges.
use Rattle.std.specs.Prelude.{◌≡◌, ◌≢◌, ℕ, ◌≤◌, List, [], ◌∷◌, length, AllPairs}
use Rattle.orders.specs.Paths.{Linked}
use Rattle.orders.specs.Orders.{NotAfter}

-- at least one node, all distinct, each with an edge to the next and the last with an edge to the first
abbrev pub IsCycle : (ℕ → ℕ → Type 0) → List ℕ → Type 0
IsCycle E [] = ⊥
IsCycle E (first ∷ more) = Linked E first more first × AllPairs (λ a b. a ≢ b) (first ∷ more)

-- the node lies on a cycle, and so begins one
abbrev pub IsOnCycle : (ℕ → ℕ → Type 0) → ℕ → Type 0
IsOnCycle E node = (more : List ℕ) × IsCycle E (node ∷ more)

-- the least node that lies on any cycle
pub record IsLeastOnCycle (E : ℕ → ℕ → Type 0) (node : ℕ) : Type 0 where
  pub on_cycle : IsOnCycle E node
  pub least : (other : ℕ) → IsOnCycle E other → node ≤ other

-- The first, in the order of lists, among the shortest cycles that begin at the node. Their first nodes are equal, so what follows is compared.
pub record IsFirstShortestCycle (E : ℕ → ℕ → Type 0) (start : ℕ) (more : List ℕ) : Type 0 where
  pub is_cycle : IsCycle E (start ∷ more)
  pub shortest : (others : List ℕ) → IsCycle E (start ∷ others) → length more ≤ length others
  pub first : (others : List ℕ) → IsCycle E (start ∷ others) → length others ≡ length more → NotAfter more others

-- The canonical cycle: it begins at the least node that lies on any cycle, and is the first among the shortest from there.
abbrev pub IsCanonicalCycle : (ℕ → ℕ → Type 0) → List ℕ → Type 0
IsCanonicalCycle E [] = ⊥
IsCanonicalCycle E (start ∷ more) = IsLeastOnCycle E start × IsFirstShortestCycle E start more
