use Rattle.std.proofs.Common.{◌≡◌, ◌^◌, ◌≤◌, ◌++◌}
use Rattle.test_lang.specs.Signatures.{candidate_count}
use Rattle.test_lang.specs.Values.{thread_loads}
use Rattle.signature_plan.proofs.AllLoads.{loads_left}
use Rattle.signature_plan.proofs.GroupRows.{empty_group, rows_after}
use Rattle.signature_plan.proofs.group_rows.cut_thread.Given as goal

abbrev pub invariant-loop-node : goal.invariant-loop-node
invariant-loop-node l = record {
  rows : l.rows.items ++ rows_after (candidate_count l.candidates) l.open (loads_left l.candidates l.thread l.node)
      ≡ l.fn.rows.items ++ rows_after (candidate_count l.candidates) empty_group (thread_loads l.candidates l.thread);
  product : l.open.product ≤ 2 ^ 64;
  loads : l.open.loads ≤ l.node;
}
