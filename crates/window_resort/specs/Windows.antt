-- The window of an order: the part of it that must be sorted again under other edges.
use Rattle.std.specs.Prelude.{ℕ, ◌+◌, ◌-◌, ◌<◌, ◌≤◌, List, ◌++◌, Option, Some, None, length, slice_index, slice_range, take, drop}
use Rattle.window_resort.specs.declared.spans.Window.{Window}

-- An edge points backward: from the node at the one place to the node at an earlier place.
pub record PointsBackward (E : ℕ → ℕ → Type 0) (order : List ℕ) (source target : ℕ) : Type 0 where
  pub within : source < length order
  pub earlier : target < source
  pub edge : E (slice_index order source) (slice_index order target)

-- from the least place of a target to the greatest place of a source
pub record Spans (Backward : ℕ → ℕ → Type 0) (window : Window) : Type 0 where
  pub to_first : (source : ℕ) × Backward source window.first
  pub first : (source target : ℕ) → Backward source target → window.first ≤ target
  pub from_last : (target : ℕ) × Backward window.last target
  pub last : (source target : ℕ) → Backward source target → source ≤ window.last

-- none where there is no source and target
abbrev pub IsSpan : (ℕ → ℕ → Type 0) → Option Window → Type 0
IsSpan Backward None = (source target : ℕ) → ¬ Backward source target
IsSpan Backward (Some window) = Spans Backward window

-- The window of an order: it spans the edges that point backward, and is empty where none does.
abbrev pub IsWindow : (ℕ → ℕ → Type 0) → List ℕ → Option Window → Type 0
IsWindow E order window = IsSpan (PointsBackward E order) window

-- the nodes at its places, and how many they are
abbrev pub window_nodes : List ℕ → Window → List ℕ
window_nodes order window = slice_range order window.first (window.last + 1)

abbrev pub window_length : Window → ℕ
window_length window = window.last + 1 - window.first

-- the order with other nodes at the places of the window
abbrev pub with_window : List ℕ → Window → List ℕ → List ℕ
with_window order window nodes = take window.first order ++ (nodes ++ drop (window.last + 1) order)
