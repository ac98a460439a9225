-- The walk of a chunk of runs: each run is sorted from the order that the runs before it left.
use Rattle.std.specs.Prelude.{◌≡◌, ℕ, List, [], ◌∷◌, Option, Some, None, Bool, true, false, count_by, sum_by}
use Rattle.orders.specs.Orders.{IsLeastOrder, HasNoOrder}
use Rattle.test_lang.specs.declared.op.MemModel.{MemModel}
use Rattle.test_lang.specs.Edges.{Edge, HasNoRunOrder, IsLeastRunOrder}
use Rattle.test_lang.specs.Program.{Program}
use Rattle.window_resort.specs.declared.spans.Window.{Window}
use Rattle.window_resort.specs.declared.verdicts.Verdict.{Verdict}
use Rattle.window_resort.specs.declared.verdicts.Verdict.TheVariants.{Sorted, Kept, Resorted, Cycle}
use Rattle.window_resort.specs.Windows.{IsWindow, window_length, window_nodes, with_window}

-- The last order that was found in a chunk, with its run.
pub record Base : Type 0 where
  pub run : List ℕ
  pub order : List ℕ

-- One run more: its verdict, and the base after it. A run without an order leaves the base as it was.
pub data TakesRun (m : MemModel) (p : Program) (base : Option Base) (run : List ℕ) (verdict : Verdict) (after : Option Base) : Type 0 where
  -- without a base it gets the least order of all nodes
  sorted : (order : List ℕ) → base ≡ None → IsLeastRunOrder m p run order → verdict ≡ Sorted → after ≡ Some (record { run = run; order = order }) →
      TakesRun m p base run verdict after
  -- or has none
  unsorted : base ≡ None → HasNoRunOrder m p run → verdict ≡ Cycle None → after ≡ None → TakesRun m p base run verdict after
  -- where none of its edges points backward in the base's order, it gets that order
  kept : (old : Base) → base ≡ Some old → IsWindow (Edge m p run) old.order None → verdict ≡ Kept → after ≡ Some (record { run = run; order = old.order }) →
      TakesRun m p base run verdict after
  -- otherwise it gets that order with the nodes of the window in their least order
  resorted : (old : Base) (window : Window) (nodes : List ℕ) → base ≡ Some old → IsWindow (Edge m p run) old.order (Some window) →
      IsLeastOrder (Edge m p run) (window_nodes old.order window) nodes → verdict ≡ Resorted (window_length window) →
      after ≡ Some (record { run = run; order = with_window old.order window nodes }) → TakesRun m p base run verdict after
  -- or these nodes have none
  unresorted : (old : Base) (window : Window) → base ≡ Some old → IsWindow (Edge m p run) old.order (Some window) → HasNoOrder (Edge m p run) (window_nodes old.order window) →
      verdict ≡ Cycle (Some (window_length window)) → after ≡ base → TakesRun m p base run verdict after

-- The runs of a chunk one after another, each with its verdict and the base after it.
abbrev pub IsWalk : MemModel → Program → Option Base → List (List ℕ) → List Verdict → List (Option Base) → Type 0
IsWalk m p base [] [] [] = Unit {0}
IsWalk m p base (run ∷ runs) (verdict ∷ verdicts) (after ∷ bases) = TakesRun m p base run verdict after × IsWalk m p after runs verdicts bases
IsWalk m p base _ _ _ = ⊥

-- A chunk begins without a base.
abbrev pub IsChunkWalk : MemModel → Program → List (List ℕ) → List Verdict → List (Option Base) → Type 0
IsChunkWalk m p runs verdicts bases = IsWalk m p None runs verdicts bases

-- what the walk of a run counts: a sort of all nodes,
abbrev pub counts_full : Verdict → Bool
counts_full Sorted = true
counts_full (Cycle None) = true
counts_full _ = false

-- an order that was kept,
abbrev pub counts_kept : Verdict → Bool
counts_kept Kept = true
counts_kept _ = false

-- or a window, whether its nodes had an order or not,
abbrev pub counts_resorted : Verdict → Bool
counts_resorted (Resorted nodes) = true
counts_resorted (Cycle (Some nodes)) = true
counts_resorted _ = false

-- with so many nodes
abbrev pub nodes_sorted : Verdict → ℕ
nodes_sorted (Resorted nodes) = nodes
nodes_sorted (Cycle (Some nodes)) = nodes
nodes_sorted _ = 0

-- The work of a walk.
pub record WalkWork : Type 0 where
  pub full : ℕ
  pub kept : ℕ
  pub resorted : ℕ
  pub nodes : ℕ

abbrev pub work_of : List Verdict → WalkWork
work_of verdicts = record { full = count_by counts_full verdicts; kept = count_by counts_kept verdicts; resorted = count_by counts_resorted verdicts; nodes = sum_by nodes_sorted verdicts }

-- the verdict is a cycle
abbrev pub is_cycle : Verdict → Bool
is_cycle (Cycle window) = true
is_cycle _ = false
