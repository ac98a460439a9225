-- Loads, and which stores are of their candidates.
use Rattle.std.specs.Prelude.{◌≡◌, ◌<◌, ℕ, Bool, ◌&&◌, not, Some, length, slice_get}
use Rattle.candidates.specs.declared.load_node.LoadNode.{LoadNode}
use Rattle.test_lang.specs.declared.op.Op.TheVariants.{Load}
use Rattle.test_lang.specs.Program.{Program, nodes, op_count}
use Rattle.test_lang.specs.Values.{same_thread}
use Rattle.test_lang.specs.Runs.{writes_for}

-- the load with its thread and its word
pub record IsLoadNode (p : Program) (load : LoadNode) : Type 0 where
  pub is_load : slice_get (nodes p) load.node ≡ Some (load.thread, Load load.word)
  pub is_node : load.node < op_count p
  pub has_thread : load.thread < length p.threads

-- a store to the load's word in another thread
abbrev pub is_other_store : Program → ℕ → ℕ → Bool
is_other_store p load n = writes_for p load n && not (same_thread p load n)
