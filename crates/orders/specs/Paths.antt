-- Paths along a set of edges, which is any relation between nodes.
use Rattle.std.specs.Prelude.{ℕ, List, [], ◌∷◌}

-- from the first node each has an edge to the next, and the last of them to the end
abbrev pub Linked : (ℕ → ℕ → Type 0) → ℕ → List ℕ → ℕ → Type 0
Linked E from [] to = E from to
Linked E from (next ∷ more) to = E from next × Linked E next more to

-- a path of one edge or more leads from a to b
abbrev pub Reach : (ℕ → ℕ → Type 0) → ℕ → ℕ → Type 0
Reach E a b = (between : List ℕ) × Linked E a between b
