-- A few edges in place of many.
use Rattle.std.specs.Prelude.{ℕ, List, Contains}
use Rattle.orders.specs.Paths.{Reach}

-- each edge of the first set is one of the second
abbrev pub IsAmong : (ℕ → ℕ → Type 0) → (ℕ → ℕ → Type 0) → Type 0
IsAmong F E = (a b : ℕ) → F a b → E a b

-- along the edges of the first set a path leads over each edge of the second
abbrev pub IsReaching : (ℕ → ℕ → Type 0) → (ℕ → ℕ → Type 0) → Type 0
IsReaching F E = (a b : ℕ) → E a b → Reach F a b

-- both ends of each edge stand in the list
abbrev pub IsWithin : (ℕ → ℕ → Type 0) → List ℕ → Type 0
IsWithin E nodes = (a b : ℕ) → E a b → Contains nodes a × Contains nodes b
