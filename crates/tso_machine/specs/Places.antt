-- The places of a buffer without order from which an entry may leave.
use Rattle.std.specs.Prelude.{◌≡◌, ℕ, ◌<◌, List, filter, take, length, Bool, true, not, ◌==◌, slice_index, slice_index_or, slice_set}
use Rattle.std.specs.List.{list_any}
use Rattle.orders.specs.Orders.{nodes_below}
use Rattle.test_lang.specs.declared.op.Action.{Action}
use Rattle.test_lang.specs.declared.op.Action.TheVariants.{Load, Store, Fence}
use Rattle.test_lang.specs.declared.op.FenceKind.TheVariants.{Full, Store as StoreFence, Load as LoadFence}
use Rattle.test_lang.specs.Actions.{op_of, is_store_fence}
use Rattle.test_lang.specs.Program.{Program, at_action}
use Rattle.test_lang.specs.Values.{is_of}
use Rattle.test_lang.specs.Play.Machines.{holds_back_at}

-- nothing that stands before the entry holds it back
abbrev pub is_free : Program → List ℕ → ℕ → Bool
is_free p entries place = not (list_any (λ a. holds_back_at p a (slice_index entries place)) (take place entries))

abbrev pub free_places : Program → List ℕ → List ℕ
free_places p entries = filter (is_free p entries) (nodes_below (length entries))

-- A walk over a buffer, as long as no store fence was met: a flag for each word tells whether a load or a store of it was.

abbrev pub is_of_at : Program → ℕ → ℕ → Bool
is_of_at p word n = at_action (λ node. is_of word (op_of node.1)) p n

abbrev pub is_store_fence_at : Program → ℕ → Bool
is_store_fence_at p n = at_action (λ node. is_store_fence node.1) p n

pub record TellsMet (p : Program) (front : List ℕ) (met : List Bool) : Type 0 where
  pub long : length met ≡ 256
  pub words : (word : ℕ) → word < 256 → slice_index_or met word true ≡ list_any (is_of_at p word) front

-- whether the next entry may leave
abbrev pub passes : List Bool → Action → ℕ → Bool
passes met (Load word) place = not (slice_index_or met word true)
passes met (Store word) place = not (slice_index_or met word true)
passes met (Fence Full) place = true
passes met (Fence StoreFence) place = place == 0
passes met (Fence LoadFence) place = true

-- the flags behind it
abbrev pub with_met : List Bool → Action → List Bool
with_met met (Load word) = slice_set met word true
with_met met (Store word) = slice_set met word true
with_met met (Fence kind) = met
