-- The nearest node of each kind, as a table tells it.
use Rattle.std.specs.Prelude.{◌≡◌, ℕ, ◌-◌, ◌<◌, Bool, true, false, not, ◌&&◌, ◌||◌, Option, Some, None, if◌then◌else◌, length, slice_index_or}
use Rattle.test_lang.specs.declared.op.Action.{Action}
use Rattle.test_lang.specs.Actions.{op_of, is_full_fence, is_store_fence, is_load_fence, is_store_like}
use Rattle.test_lang.specs.Program.{Program, op_count, at_action}
use Rattle.test_lang.specs.Values.{is_load, is_store, is_of}
use Rattle.graph_model.specs.declared.nearest.Nearest.{Nearest}
use Rattle.graph_model.specs.FirstLast.{last_below, first_from}

-- The table tells the nodes that f finds, for each test of actions that a kind stands for.
pub record Tells (f : (Action → Bool) → Option ℕ) (table : Nearest) : Type 0 where
  pub any : table.any ≡ f (λ action. true)
  pub not_store_like : table.not_store_like ≡ f (λ action. not (is_store_like action))
  pub store_like : table.store_like ≡ f is_store_like
  pub store_fence : table.store_fence ≡ f is_store_fence
  pub store_barrier : table.store_barrier ≡ f (λ action. is_store_fence action || is_full_fence action)
  pub load_barrier : table.load_barrier ≡ f (λ action. is_load_fence action || is_full_fence action)
  pub loads : (word : ℕ) → word < length table.loads.items → slice_index_or table.loads.items word None ≡ f (λ action. is_of word (op_of action) && is_load (op_of action))
  pub stores : (word : ℕ) → word < length table.stores.items → slice_index_or table.stores.items word None ≡ f (λ action. is_of word (op_of action) && is_store (op_of action))
  pub nothing : f (λ action. false) ≡ None

-- what was found, and then the node with this action
abbrev pub with_node : ((Action → Bool) → Option ℕ) → ℕ → Action → (Action → Bool) → Option ℕ
with_node f node action test = if test action then Some node else f test

-- the last node below n that passes the test
abbrev pub last_node : Program → ℕ → (Action → Bool) → Option ℕ
last_node p n test = last_below (at_action (λ node. test node.1) p) n

-- the first of the last k nodes that passes it
abbrev pub first_passing : Program → ℕ → (Action → Bool) → Option ℕ
first_passing p k test = first_from (at_action (λ node. test node.1) p) k (op_count p - k)
