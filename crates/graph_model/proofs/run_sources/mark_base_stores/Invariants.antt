use Rattle.std.proofs.Common.{◌≡◌, ◌≤◌, ℕ}
use Rattle.std.specs.Prelude.{Some}
use Rattle.test_lang.specs.declared.op.Action.{Action}
use Rattle.test_lang.specs.Program.{action_at, op_count}
use Rattle.digraph.specs.Marks.{MarksWhere}
use Rattle.graph_model.specs.WordLoads.{last_load}
use Rattle.graph_model.proofs.RunSources.{GivesBase}
use Rattle.graph_model.proofs.WordLoads.{above}
use Rattle.graph_model.proofs.run_sources.mark_base_stores.Given as goal

abbrev pub invariant-loop-next : goal.invariant-loop-next
invariant-loop-next l = record {
  from : ℕ;
  within : from ≤ op_count l.test;
  action : Action;
  found : action_at l.test l.store ≡ Some action;
  next_is : l.next ≡ last_load l.test from action;
  marked : MarksWhere (λ a. (load : ℕ) × (from ≤ load) × GivesBase l.test l.run l.store load a) l.mark l.fn.marks l.marks;
}

abbrev pub decreases-loop-next : goal.decreases-loop-next
decreases-loop-next l = above l.next
