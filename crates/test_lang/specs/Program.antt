-- A test as plain data: a version, a number of words, and threads, each a list of actions. Its actions, numbered in text order, are its nodes.
-- What tells fences apart speaks of a node's action, and all else of its operation.
use Rattle.std.specs.Prelude.{ℕ, suc, ◌<◌, ◌≤◌, All, List, [], ◌∷◌, ◌++◌, map, take, length, sum_by, Bool, false, IsTrue, Option, Some, None, slice_get, slice_index_or}
use Rattle.std.specs.Option.{option_map, option_map_or}
use Rattle.orders.specs.Orders.{nodes_below}
use Rattle.test_lang.specs.declared.op.Op.{Op}
use Rattle.test_lang.specs.declared.op.Op.TheVariants.{Load, Store, Fence}
use Rattle.test_lang.specs.declared.op.Action.{Action}
use Rattle.test_lang.specs.Actions.{op_of, action_of, allows}

pub record Program : Type 0 where
  pub version : ℕ
  pub words : ℕ
  pub threads : List (List Action)

-- There are two versions.
abbrev pub IsVersion : ℕ → Type 0
IsVersion version = (1 ≤ version) × (version ≤ 2)

abbrev pub empty_program : ℕ → ℕ → Program
empty_program version words = record { version = version; words = words; threads = [] }

-- with an empty thread at the end
abbrev pub with_thread : Program → Program
with_thread p = record { version = p.version; words = p.words; threads = p.threads ++ [] ∷ [] }

-- the threads, the last of which, if there is one, has the action at its end
abbrev pub with_last : List (List Action) → Action → List (List Action)
with_last [] action = []
with_last (thread ∷ []) action = (thread ++ action ∷ []) ∷ []
with_last (thread ∷ next ∷ more) action = thread ∷ with_last (next ∷ more) action

abbrev pub with_action : Program → Action → Program
with_action p action = record { version = p.version; words = p.words; threads = with_last p.threads action }

-- with the operation at the end of the last thread: a fence is a full one
abbrev pub with_op : Program → Op → Program
with_op p op = with_action p (action_of op)

-- the actions of the threads, each with its thread's number, where the first thread has the number k
abbrev pub actions_from : ℕ → List (List Action) → List (ℕ × Action)
actions_from k [] = []
actions_from k (thread ∷ more) = map (λ action. (k, action)) thread ++ actions_from (suc k) more

-- Each node's thread and action, by node.
abbrev pub actions : Program → List (ℕ × Action)
actions p = actions_from 0 p.threads

-- the same of operations
abbrev pub nodes_from : ℕ → List (List Action) → List (ℕ × Op)
nodes_from k [] = []
nodes_from k (thread ∷ more) = map (λ action. (k, op_of action)) thread ++ nodes_from (suc k) more

-- Each node's thread and operation, by node.
abbrev pub nodes : Program → List (ℕ × Op)
nodes p = nodes_from 0 p.threads

abbrev pub op_count : Program → ℕ
op_count p = length (nodes p)

-- all nodes, rising
abbrev pub all_nodes : Program → List ℕ
all_nodes p = nodes_below (op_count p)

-- the action of a node
abbrev pub action_at : Program → ℕ → Option Action
action_at p n = option_map (λ node. node.1) (slice_get (actions p) n)

-- the operation of a node
abbrev pub op_at : Program → ℕ → Option Op
op_at p n = option_map (λ node. node.1) (slice_get (nodes p) n)

-- the number of its thread
abbrev pub thread_at : Program → ℕ → Option ℕ
thread_at p n = option_map (λ node. node.0) (slice_get (nodes p) n)

-- how many actions a thread has
abbrev pub thread_length : Program → ℕ → ℕ
thread_length p t = length (slice_index_or p.threads t [])

-- the node that its first action has or would have
abbrev pub first_node : Program → ℕ → ℕ
first_node p t = sum_by length (take t p.threads)

-- the word of the operation, if it has one, is below n
abbrev pub HasWordBelow : ℕ → Op → Type 0
HasWordBelow n (Load word) = word < n
HasWordBelow n (Store word) = word < n
HasWordBelow n Fence = Unit {0}

-- the word of the operation, if it has one, is a word of the test
abbrev pub HasWord : Program → Op → Type 0
HasWord p op = HasWordBelow p.words op

-- The limits of a test. A text of a test has at least one thread; a test that is being made may have none.
pub record IsWithinLimits (p : Program) : Type 0 where
  pub version : IsVersion p.version
  pub some_word : 1 ≤ p.words
  pub words : p.words ≤ 256
  pub threads : length p.threads ≤ 16
  pub operations : op_count p ≤ 2048
  pub words_of : All (λ node. HasWord p node.1) (nodes p)
  pub kinds_of : All (λ node. IsTrue (allows p.version node.1)) (actions p)

-- Tests of nodes: what a thread and its operation pass. A number that is no node passes none.

abbrev pub passes : (ℕ × Op → Bool) → Option (ℕ × Op) → Bool
passes test None = false
passes test (Some node) = test node

abbrev pub passes_after : (ℕ × Op → ℕ × Op → Bool) → Option (ℕ × Op) → Option (ℕ × Op) → Bool
passes_after test None second = false
passes_after test (Some first) second = passes (test first) second

abbrev pub at_node : (ℕ × Op → Bool) → Program → ℕ → Bool
at_node test p n = passes test (slice_get (nodes p) n)

abbrev pub at_nodes : (ℕ × Op → ℕ × Op → Bool) → Program → ℕ → ℕ → Bool
at_nodes test p a b = passes_after test (slice_get (nodes p) a) (slice_get (nodes p) b)

-- the same of threads and actions

abbrev pub at_action : (ℕ × Action → Bool) → Program → ℕ → Bool
at_action test p n = option_map_or test (slice_get (actions p) n) false

abbrev pub at_actions : (ℕ × Action → ℕ × Action → Bool) → Program → ℕ → ℕ → Bool
at_actions test p a b = option_map_or (λ first. at_action (test first) p b) (slice_get (actions p) a) false
