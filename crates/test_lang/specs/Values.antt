-- Kinds of operations, the values of stores and the ranks of loads.
use Rattle.std.specs.Prelude.{ℕ, ◌+◌, List, Bool, true, false, ◌&&◌, ◌==◌, take, filter, count_by}
use Rattle.test_lang.specs.declared.op.Op.{Op}
use Rattle.test_lang.specs.declared.op.Op.TheVariants.{Load, Store, Fence}
use Rattle.std.specs.Option.{option_map_or}
use Rattle.test_lang.specs.Program.{Program, nodes, all_nodes, op_at, at_node, at_nodes}

abbrev pub is_load : Op → Bool
is_load (Load word) = true
is_load (Store word) = false
is_load Fence = false

abbrev pub is_store : Op → Bool
is_store (Load word) = false
is_store (Store word) = true
is_store Fence = false

abbrev pub is_fence : Op → Bool
is_fence (Load word) = false
is_fence (Store word) = false
is_fence Fence = true

-- a load or a store of the word
abbrev pub is_of : ℕ → Op → Bool
is_of x (Load word) = x == word
is_of x (Store word) = x == word
is_of x Fence = false

-- a store to the word
abbrev pub is_store_to : ℕ → Op → Bool
is_store_to x (Load word) = false
is_store_to x (Store word) = x == word
is_store_to x Fence = false

-- two loads or stores of one word
abbrev pub same_word : Op → Op → Bool
same_word (Load word) b = is_of word b
same_word (Store word) b = is_of word b
same_word Fence b = false

-- the word of a load or a store; a fence has none, and 0 stands in its place
abbrev pub word_of : Op → ℕ
word_of (Load word) = word
word_of (Store word) = word
word_of Fence = 0

-- the same of nodes

abbrev pub is_load_at : Program → ℕ → Bool
is_load_at p n = at_node (λ node. is_load node.1) p n

abbrev pub is_store_at : Program → ℕ → Bool
is_store_at p n = at_node (λ node. is_store node.1) p n

abbrev pub is_fence_at : Program → ℕ → Bool
is_fence_at p n = at_node (λ node. is_fence node.1) p n

abbrev pub same_thread : Program → ℕ → ℕ → Bool
same_thread p a b = at_nodes (λ first second. first.0 == second.0) p a b

abbrev pub one_word : Program → ℕ → ℕ → Bool
one_word p a b = at_nodes (λ first second. same_word first.1 second.1) p a b

abbrev pub word_at : Program → ℕ → ℕ
word_at p n = option_map_or word_of (op_at p n) 0

-- how many loads a test has
abbrev pub load_count : Program → ℕ
load_count p = count_by (λ node. is_load node.1) (nodes p)

-- how many stores it has
abbrev pub store_count : Program → ℕ
store_count p = count_by (λ node. is_store node.1) (nodes p)

-- The rank of a load: how many loads stand before it.
abbrev pub rank_of : Program → ℕ → ℕ
rank_of p n = count_by (λ node. is_load node.1) (take n (nodes p))

-- The value of a store: its rank among all stores, counted from 1. The initial value of each word is 0.
abbrev pub value_of : Program → ℕ → ℕ
value_of p n = count_by (λ node. is_store node.1) (take n (nodes p)) + 1

-- all loads, rising
abbrev pub load_nodes : Program → List ℕ
load_nodes p = filter (is_load_at p) (all_nodes p)

-- the loads of one thread, rising
abbrev pub thread_loads : Program → ℕ → List ℕ
thread_loads p t = filter (λ n. at_node (λ node. (node.0 == t) && is_load node.1) p n) (all_nodes p)
