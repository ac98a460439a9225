use Rattle.std.proofs.Common.{ℕ, List, ◌++◌, take}
use Rattle.window_resort.specs.Changes.{LeadsBack}
use Rattle.window_resort.specs.Windows.{IsSpan}
use Rattle.window_resort.proofs.spans.widen_by.Given as goal

abbrev pub invariant-loop-edge : goal.invariant-loop-edge
invariant-loop-edge l = (before : List (ℕ × ℕ)) → IsSpan (LeadsBack l.places before) l.fn.window → IsSpan (LeadsBack l.places (before ++ take l.edge-index l.edges)) l.widest
