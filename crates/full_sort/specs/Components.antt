-- Strongly connected components, by a number for each node.
use Rattle.std.specs.Prelude.{◌≡◌, ◌≢◌, ◌↔◌, ◌⊎◌, ◌==◌, ℕ, zero, suc, ◌+◌, ◌<◌, List, Bool, cond, slice_index}
use Rattle.orders.specs.Paths.{Reach}
use Rattle.digraph.specs.Digraph.{in_degree}

-- the nodes are one, or each reaches the other
abbrev pub InOneComponent : (ℕ → ℕ → Type 0) → ℕ → ℕ → Type 0
InOneComponent E a b = (a ≡ b) ⊎ (Reach E a b × Reach E b a)

-- two nodes have one number exactly where they lie in one component
abbrev pub NumbersComponents : (ℕ → ℕ → Type 0) → ℕ → List ℕ → Type 0
NumbersComponents E n numbers = (a b : ℕ) → a < n → b < n → (slice_index numbers a ≡ slice_index numbers b) ↔ InOneComponent E a b

-- Some nodes without a number have this one now, and each of them has the fact. The others keep theirs.
pub record GivesNumber (P : ℕ → Type 0) (number : ℕ) (old new : List ℕ) : Type 0 where
  pub kept : (t : ℕ) → slice_index old t ≢ 0 → slice_index new t ≡ slice_index old t
  pub given : (t : ℕ) → slice_index old t ≡ 0 → (slice_index new t ≡ 0) ⊎ ((slice_index new t ≡ number) × P t)

-- an edge between nodes that have no number yet
abbrev pub FreeEdge : (ℕ → ℕ → Type 0) → List ℕ → ℕ → ℕ → Type 0
FreeEdge E numbers a b = E a b × (slice_index numbers a ≡ 0) × (slice_index numbers b ≡ 0)

-- The root has the number, and each node from which a path of nodes without a number leads to it. The others keep theirs.
pub record NumbersSources (E : ℕ → ℕ → Type 0) (root number : ℕ) (old new : List ℕ) : Type 0 where
  pub numbered : (t : ℕ) → (slice_index new t ≡ number) ↔ ((t ≡ root) ⊎ Reach (FreeEdge E old) t root)
  pub others : (t : ℕ) → slice_index new t ≢ number → slice_index new t ≡ slice_index old t

-- an edge leads from the node to one with the same number
abbrev pub LeadsWithin : (ℕ → ℕ → Type 0) → List ℕ → ℕ → Type 0
LeadsWithin E numbers node = (t : ℕ) × E node t × (slice_index numbers t ≡ slice_index numbers node)

-- the sum of the terms of the nodes below n that pass the test
abbrev pub sum_where : (ℕ → Bool) → (ℕ → ℕ) → ℕ → ℕ
sum_where passes term zero = 0
sum_where passes term (suc n) = cond (passes n) (term n) 0 + sum_where passes term n

-- how many edges lead to nodes without a number
abbrev pub edges_unnumbered : List (ℕ × ℕ) → ℕ → List ℕ → ℕ
edges_unnumbered edges n numbers = sum_where (λ t. slice_index numbers t == 0) (in_degree edges) n
