use Rattle.std.proofs.Common.{◌≡◌, map}
use Rattle.std.specs.List.{flat_map}
use Rattle.orders.specs.Orders.{nodes_below}
use Rattle.test_lang.specs.Signatures.{candidate_count, groups_of}
use Rattle.test_lang.specs.Values.{thread_loads}
use Rattle.signature_plan.specs.Rows.{row_of}
use Rattle.signature_plan.proofs.group_rows.cut_loads.Given as goal

abbrev pub invariant-loop-thread : goal.invariant-loop-thread
invariant-loop-thread l =
    l.rows.items ≡ map (row_of l.candidates) (flat_map (λ t. groups_of (candidate_count l.candidates) (thread_loads l.candidates t)) (nodes_below l.thread))
