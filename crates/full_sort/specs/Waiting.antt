-- What the arrays of a sort hold: how many edges each node waits for, and which nodes are marked as not placed yet.
use Rattle.std.specs.Prelude.{◌≡◌, ◌≢◌, ◌↔◌, ◌⊎◌, ◌==◌, ◌&&◌, ℕ, ◌<◌, List, Bool, true, false, Contains, count_by, filter, sum_by, length, slice_index, slice_index_or, slice_set, [], ◌∷◌}
use Rattle.full_sort.specs.Bits.{bit_of}

-- how many edges lead from a to b
abbrev pub count_between : List (ℕ × ℕ) → ℕ → ℕ → ℕ
count_between edges a b = count_by (λ e. (e.0 == a) && (e.1 == b)) edges

-- how many edges lead from the nodes of the list to b
abbrev pub count_into : List (ℕ × ℕ) → List ℕ → ℕ → ℕ
count_into edges nodes b = sum_by (λ a. count_between edges a b) nodes

-- whether the node is marked
abbrev pub is_marked : List Bool → ℕ → Bool
is_marked marks node = slice_index_or marks node false

-- the marks, but for those of the nodes of the list
abbrev pub without_marks : List Bool → List ℕ → List Bool
without_marks marks [] = marks
without_marks marks (x ∷ nodes) = without_marks (slice_set marks x false) nodes

-- the marked nodes of the list
abbrev pub marked_of : List Bool → List ℕ → List ℕ
marked_of marks nodes = filter (is_marked marks) nodes

-- No node outside of the window is marked, and each node waits for the edges from the marked ones.
pub record IsWaiting (edges : List (ℕ × ℕ)) (nodes : ℕ) (window waiting : List ℕ) (marks : List Bool) : Type 0 where
  pub only : (t : ℕ) → is_marked marks t ≡ true → Contains window t
  pub counted : (t : ℕ) → t < nodes → slice_index waiting t ≡ count_into edges (marked_of marks window) t

-- the node is marked and waits for no edge
abbrev pub IsFree : List ℕ → List Bool → ℕ → Type 0
IsFree waiting marks node = (slice_index waiting node ≡ 0) × (is_marked marks node ≡ true)

-- the set has exactly the free nodes
abbrev pub HasFree : List ℕ → List ℕ → List Bool → Type 0
HasFree ready waiting marks = (t : ℕ) → (bit_of ready t ≡ 1) ↔ IsFree waiting marks t

-- The set gains the node where it is free, and no other one.
pub record NotesFree (old new waiting : List ℕ) (marks : List Bool) (node : ℕ) : Type 0 where
  pub room : length new ≡ length old
  pub others : (t : ℕ) → t ≢ node → bit_of new t ≡ bit_of old t
  pub noted : IsFree waiting marks node → bit_of new node ≡ 1
  pub only : bit_of new node ≡ 1 → (bit_of old node ≡ 1) ⊎ IsFree waiting marks node
