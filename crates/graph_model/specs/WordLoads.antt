-- The loads of each word, one behind another.
use Rattle.std.specs.Prelude.{◌≡◌, ℕ, Option, Some, None, length, slice_index_or}
use Rattle.test_lang.specs.declared.op.Action.{Action}
use Rattle.test_lang.specs.Program.{Program, action_at, op_count}
use Rattle.graph_model.specs.declared.kinds.Kind.TheVariants.{LoadOfWord}
use Rattle.graph_model.specs.declared.word_loads.WordLoads.{WordLoads}
use Rattle.graph_model.specs.FewKept.{is_kind}
use Rattle.graph_model.specs.NearestNodes.{Tells, last_node}

-- the last load of the action's word before n
abbrev pub last_load : Program → ℕ → Action → Option ℕ
last_load p n action = last_node p n (is_kind LoadOfWord action)

-- The table tells the last load of each word, and the last one before each node.
pub record TellsWordLoads (p : Program) (table : WordLoads) : Type 0 where
  pub words : length table.last.loads.items ≡ p.words
  pub last : Tells (last_node p (op_count p)) table.last
  pub room : length table.before.items ≡ op_count p
  pub before : (n : ℕ) (action : Action) → action_at p n ≡ Some action → slice_index_or table.before.items n None ≡ last_load p n action
