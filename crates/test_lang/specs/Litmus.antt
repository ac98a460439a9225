-- Small tests that memory-model engineers know.
use Rattle.std.specs.Prelude.{ℕ, [], ◌∷◌, replicate}
use Rattle.test_lang.specs.declared.op.FenceKind.TheVariants.{Full, Store as StoreFence, Load as LoadFence}
use Rattle.test_lang.specs.declared.op.Action.TheVariants.{Load, Store, Fence}
use Rattle.test_lang.specs.Program.{Program}

-- each thread stores to one word and loads the other
abbrev pub store_buffering : Program
store_buffering = record { version = 1; words = 2; threads = (Store 0 ∷ Load 1 ∷ []) ∷ (Store 1 ∷ Load 0 ∷ []) ∷ [] }

-- the same with a fence between the two operations of each thread
abbrev pub store_buffering_fences : Program
store_buffering_fences = record { version = 1; words = 2; threads = (Store 0 ∷ Fence Full ∷ Load 1 ∷ []) ∷ (Store 1 ∷ Fence Full ∷ Load 0 ∷ []) ∷ [] }

-- the same with store fences
abbrev pub store_buffering_store_fences : Program
store_buffering_store_fences = record { version = 2; words = 2; threads = (Store 0 ∷ Fence StoreFence ∷ Load 1 ∷ []) ∷ (Store 1 ∷ Fence StoreFence ∷ Load 0 ∷ []) ∷ [] }

-- the same with load fences
abbrev pub store_buffering_load_fences : Program
store_buffering_load_fences = record { version = 2; words = 2; threads = (Store 0 ∷ Fence LoadFence ∷ Load 1 ∷ []) ∷ (Store 1 ∷ Fence LoadFence ∷ Load 0 ∷ []) ∷ [] }

-- the same with a store fence and then a load fence
abbrev pub store_buffering_two_fences : Program
store_buffering_two_fences =
    record { version = 2; words = 2; threads = (Store 0 ∷ Fence StoreFence ∷ Fence LoadFence ∷ Load 1 ∷ []) ∷ (Store 1 ∷ Fence StoreFence ∷ Fence LoadFence ∷ Load 0 ∷ []) ∷ [] }

-- each thread loads one word and then, behind a load fence, stores to the other
abbrev pub load_buffering_load_fences : Program
load_buffering_load_fences = record { version = 2; words = 2; threads = (Load 0 ∷ Fence LoadFence ∷ Store 1 ∷ []) ∷ (Load 1 ∷ Fence LoadFence ∷ Store 0 ∷ []) ∷ [] }

-- a store and a load of one thread between a fence that holds loads and one that holds stores
abbrev pub load_fence_first : Program
load_fence_first = record { version = 2; words = 2; threads = (Fence LoadFence ∷ Store 0 ∷ Load 1 ∷ Fence StoreFence ∷ []) ∷ [] }

-- the same with the fences exchanged
abbrev pub store_fence_first : Program
store_fence_first = record { version = 2; words = 2; threads = (Fence StoreFence ∷ Store 0 ∷ Load 1 ∷ Fence LoadFence ∷ []) ∷ [] }

-- each thread also loads its own store before it loads the other word
abbrev pub forwarding : Program
forwarding = record { version = 1; words = 2; threads = (Store 0 ∷ Load 0 ∷ Load 1 ∷ []) ∷ (Store 1 ∷ Load 1 ∷ Load 0 ∷ []) ∷ [] }

-- data and then a flag are stored; the flag and then the data are loaded
abbrev pub message_passing : Program
message_passing = record { version = 1; words = 2; threads = (Store 0 ∷ Store 1 ∷ []) ∷ (Load 1 ∷ Load 0 ∷ []) ∷ [] }

-- the same with a fence between the two operations of each thread
abbrev pub message_passing_fences : Program
message_passing_fences = record { version = 1; words = 2; threads = (Store 0 ∷ Fence Full ∷ Store 1 ∷ []) ∷ (Load 1 ∷ Fence Full ∷ Load 0 ∷ []) ∷ [] }

-- the same with a store fence between the stores and a load fence between the loads
abbrev pub message_passing_partial_fences : Program
message_passing_partial_fences = record { version = 2; words = 2; threads = (Store 0 ∷ Fence StoreFence ∷ Store 1 ∷ []) ∷ (Load 1 ∷ Fence LoadFence ∷ Load 0 ∷ []) ∷ [] }

-- a load behind a store of its own thread
abbrev pub own_store : Program
own_store = record { version = 1; words = 1; threads = (Store 0 ∷ Load 0 ∷ []) ∷ [] }

-- a load behind two stores of its own thread
abbrev pub own_stores : Program
own_stores = record { version = 1; words = 1; threads = (Store 0 ∷ Store 0 ∷ Load 0 ∷ []) ∷ [] }

-- each of two threads stores to the one word and then loads it
abbrev pub store_load_each : Program
store_load_each = record { version = 1; words = 1; threads = (Store 0 ∷ Load 0 ∷ []) ∷ (Store 0 ∷ Load 0 ∷ []) ∷ [] }

-- a load behind two stores of its own thread, and a store of another
abbrev pub own_stores_and_other : Program
own_stores_and_other = record { version = 1; words = 1; threads = (Store 0 ∷ Store 0 ∷ Load 0 ∷ []) ∷ (Store 0 ∷ []) ∷ [] }

-- two stores of one thread against two loads of another
abbrev pub two_stores_two_loads : Program
two_stores_two_loads = record { version = 1; words = 1; threads = (Store 0 ∷ Store 0 ∷ []) ∷ (Load 0 ∷ Load 0 ∷ []) ∷ [] }

-- two threads store to one word, and a third loads it
abbrev pub two_writers : Program
two_writers = record { version = 1; words = 1; threads = (Store 0 ∷ []) ∷ (Store 0 ∷ []) ∷ (Load 0 ∷ []) ∷ [] }

-- an empty thread between a store and a load
abbrev pub empty_thread : Program
empty_thread = record { version = 1; words = 1; threads = (Store 0 ∷ []) ∷ [] ∷ (Load 0 ∷ []) ∷ [] }

-- one thread without operations
abbrev pub no_operations : Program
no_operations = record { version = 1; words = 1; threads = [] ∷ [] }

-- one store against so many loads
abbrev pub one_store_loads : ℕ → Program
one_store_loads n = record { version = 1; words = 1; threads = (Store 0 ∷ []) ∷ replicate n (Load 0) ∷ [] }
