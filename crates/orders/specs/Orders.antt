-- Orders of a list of nodes under any set of edges. A whole graph is the list of all its nodes; a part of it is a shorter list.
use Rattle.std.specs.Prelude.{◌≡◌, ◌≢◌, ◌↔◌, ℕ, zero, suc, ◌<◌, ◌⊎◌, List, [], ◌∷◌, ◌++◌, length, slice_index, Contains, AllPairs}

-- The nodes, each once, and each edge among them leads forward.
pub record IsOrder (E : ℕ → ℕ → Type 0) (nodes order : List ℕ) : Type 0 where
  pub same_nodes : (x : ℕ) → Contains order x ↔ Contains nodes x
  pub once : AllPairs (λ a b. a ≢ b) order
  pub forward : (i j : ℕ) → i < length order → j < length order → E (slice_index order i) (slice_index order j) → i < j

-- the nodes have an order
abbrev pub IsAcyclic : (ℕ → ℕ → Type 0) → List ℕ → Type 0
IsAcyclic E nodes = (order : List ℕ) × IsOrder E nodes order

-- no list is an order of the nodes
abbrev pub HasNoOrder : (ℕ → ℕ → Type 0) → List ℕ → Type 0
HasNoOrder E nodes = (order : List ℕ) → ¬ IsOrder E nodes order

-- lists compared by their numbers, the first number first; a list stands after each shorter list that it begins with
abbrev pub NotAfter : List ℕ → List ℕ → Type 0
NotAfter [] ys = Unit {0}
NotAfter (x ∷ xs) [] = ⊥
NotAfter (x ∷ xs) (y ∷ ys) = (x < y) ⊎ ((x ≡ y) × NotAfter xs ys)

-- the first of all orders
pub record IsLeastOrder (E : ℕ → ℕ → Type 0) (nodes order : List ℕ) : Type 0 where
  pub is_order : IsOrder E nodes order
  pub least : (other : List ℕ) → IsOrder E nodes other → NotAfter order other

-- the numbers below n, rising: all nodes of a graph of n nodes
abbrev pub nodes_below : ℕ → List ℕ
nodes_below zero = []
nodes_below (suc n) = nodes_below n ++ n ∷ []
