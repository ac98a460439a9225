-- Orders that are made from the front, one node at a time.
use Rattle.std.specs.Prelude.{ℕ, ◌<◌, ◌≤◌, List, length, take, slice_index, Contains}

-- each predecessor of the node among the nodes is placed
abbrev pub IsReady : (ℕ → ℕ → Type 0) → List ℕ → List ℕ → ℕ → Type 0
IsReady E nodes placed x = (a : ℕ) → Contains nodes a → E a x → Contains placed a

-- the least of the nodes that aren't placed and are ready
pub record IsNext (E : ℕ → ℕ → Type 0) (nodes placed : List ℕ) (x : ℕ) : Type 0 where
  pub inside : Contains nodes x
  pub unplaced : ¬ Contains placed x
  pub ready : IsReady E nodes placed x
  pub least : (z : ℕ) → Contains nodes z → ¬ Contains placed z → IsReady E nodes placed z → x ≤ z

-- Each place has the next node after those that stand before it, and no node is missing.
pub record TakesNext (E : ℕ → ℕ → Type 0) (nodes order : List ℕ) : Type 0 where
  pub next : (i : ℕ) → i < length order → IsNext E nodes (take i order) (slice_index order i)
  pub whole : (x : ℕ) → Contains nodes x → Contains order x

-- Some node isn't placed, and none of those that aren't is ready.
pub record IsStuck (E : ℕ → ℕ → Type 0) (nodes placed : List ℕ) : Type 0 where
  pub node : ℕ
  pub inside : Contains nodes node
  pub unplaced : ¬ Contains placed node
  pub none : (z : ℕ) → Contains nodes z → ¬ Contains placed z → ¬ IsReady E nodes placed z
