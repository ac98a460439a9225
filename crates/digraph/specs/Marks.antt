-- Marks of nodes, in a list with a place for each node. A mark of 0 is none.
use Rattle.std.specs.Prelude.{◌≡◌, ◌≢◌, ◌⊎◌, ℕ, List, length, slice_index}

-- Each node of a set gets the mark where it had none, and all else stays.
pub record MarksWhere (P : ℕ → Type 0) (mark : ℕ) (old new : List ℕ) : Type 0 where
  pub room : length new ≡ length old
  pub kept : (x : ℕ) → slice_index old x ≢ 0 → slice_index new x ≡ slice_index old x
  pub fresh : (x : ℕ) → slice_index old x ≡ 0 → ((slice_index new x ≡ mark) × P x) ⊎ ((slice_index new x ≡ 0) × ¬ P x)

-- the nodes from which an edge leads to the target
abbrev pub MarksSources : (ℕ → ℕ → Type 0) → ℕ → ℕ → List ℕ → List ℕ → Type 0
MarksSources E target mark old new = MarksWhere (λ x. E x target) mark old new
