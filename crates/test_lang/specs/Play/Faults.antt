-- What each planted fault changes.
use Rattle.std.specs.Prelude.{ℕ, Bool, true, false, ◌||◌, ◌&&◌, ◌==◌}
use Rattle.test_lang.specs.declared.target.Fault.{Fault}
use Rattle.test_lang.specs.declared.target.Fault.TheVariants.{None, Stale, NoFence, Unordered, NoForward, LoadLoad}
use Rattle.test_lang.specs.Program.{Program}
use Rattle.test_lang.specs.Values.{is_fence_at, is_load_at}

-- the load gives the value before where it reads memory
abbrev pub is_stale : Fault → ℕ → Bool
is_stale None load = false
is_stale (Stale node) load = node == load
is_stale NoFence load = false
is_stale Unordered load = false
is_stale NoForward load = false
is_stale LoadLoad load = false

-- every load reads memory
abbrev pub forwards_nothing : Fault → Bool
forwards_nothing None = false
forwards_nothing (Stale node) = false
forwards_nothing NoFence = false
forwards_nothing Unordered = false
forwards_nothing NoForward = true
forwards_nothing LoadLoad = false

-- a buffer is drained in any order
abbrev pub drains_any : Fault → Bool
drains_any None = false
drains_any (Stale node) = false
drains_any NoFence = false
drains_any Unordered = true
drains_any NoForward = false
drains_any LoadLoad = false

-- a full fence waits for no buffer, and a store fence doesn't enter it
abbrev pub frees_fences : Fault → Bool
frees_fences None = false
frees_fences (Stale node) = false
frees_fences NoFence = true
frees_fences Unordered = false
frees_fences NoForward = false
frees_fences LoadLoad = false

-- the second node doesn't wait for the first, although their order is kept
abbrev pub spares : Fault → Program → ℕ → ℕ → Bool
spares None p a b = false
spares (Stale node) p a b = false
spares NoFence p a b = is_fence_at p a || is_fence_at p b
spares Unordered p a b = false
spares NoForward p a b = false
spares LoadLoad p a b = is_load_at p a && is_load_at p b
