use Rattle.std.proofs.Common.{◌≡◌, ◌<◌, ℕ, length}
use Rattle.std.specs.Prelude.{Some, None, slice_index_or}
use Rattle.test_lang.specs.declared.op.Action.{Action}
use Rattle.test_lang.specs.Program.{action_at, op_count}
use Rattle.graph_model.specs.NearestNodes.{Tells, last_node}
use Rattle.graph_model.specs.WordLoads.{last_load}
use Rattle.graph_model.proofs.word_loads.WordLoads.of.Given as goal

abbrev pub invariant-loop-node : goal.invariant-loop-node
invariant-loop-node l = record {
  words : length l.last.loads.items ≡ l.test.words;
  told : Tells (last_node l.test l.node) l.last;
  room : length l.before.items ≡ op_count l.test;
  each : (n : ℕ) (action : Action) → n < l.node → action_at l.test n ≡ Some action → slice_index_or l.before.items n None ≡ last_load l.test n action;
}
