-- The edges of the loads that changed, by the places of their nodes in an order.
use Rattle.std.specs.Prelude.{◌≡◌, ◌≢◌, ℕ, ◌+◌, ◌<◌, List, [], Contains, Option, Some, None, length, max, min, slice_index, if◌then◌else◌}
use Rattle.std.specs.List.{flat_map}
use Rattle.orders.specs.Orders.{nodes_below}
use Rattle.test_lang.specs.Program.{Program}
use Rattle.test_lang.specs.Values.{load_nodes}
use Rattle.graph_model.specs.LoadEdges.{edges_of_load}
use Rattle.window_resort.specs.declared.spans.Window.{Window}
use Rattle.window_resort.specs.Bounds.{is_changed}

-- the few edges of the load with the rank
abbrev pub edges_at_rank : Program → List ℕ → ℕ → List (ℕ × ℕ)
edges_at_rank p run rank = edges_of_load p run (slice_index (load_nodes p) rank)

-- those of the first loads that have another value than in the base's run
abbrev pub changed_edges : Program → List ℕ → List ℕ → ℕ → List (ℕ × ℕ)
changed_edges p base run count = flat_map (λ rank. if is_changed base run rank then edges_at_rank p run rank else []) (nodes_below count)

-- each node of the order has its place
pub record HasPlaces (order places : List ℕ) : Type 0 where
  pub long : length places ≡ length order
  pub at : (place : ℕ) → place < length order → slice_index places (slice_index order place) ≡ place

-- an edge of the list leads from the one place to the other, which is earlier
pub record LeadsBack (places : List ℕ) (edges : List (ℕ × ℕ)) (source target : ℕ) : Type 0 where
  pub from : ℕ
  pub to : ℕ
  pub edge : Contains edges (from, to)
  pub source_is : slice_index places from ≡ source
  pub target_is : slice_index places to ≡ target
  pub earlier : target < source

-- the window with two places more
abbrev pub widened : Option Window → ℕ → ℕ → Window
widened None source target = record { first = target; last = source }
widened (Some window) source target = record { first = min window.first target; last = max window.last source }

-- some of the nodes have their places, counted from the first, and the places of all others are as before
pub record NotesPlaces (first : ℕ) (nodes : List ℕ) (count : ℕ) (old new : List ℕ) : Type 0 where
  pub same_length : length new ≡ length old
  pub noted : (index : ℕ) → index < count → slice_index new (slice_index nodes index) ≡ first + index
  pub others : (node : ℕ) → ((index : ℕ) → index < count → slice_index nodes index ≢ node) → slice_index new node ≡ slice_index old node
