-- The order of a thread that a memory model keeps.
use Rattle.std.specs.Prelude.{ℕ, Bool, true, not, ◌&&◌, ◌||◌, ◌==◌, nat_lt, IsTrue}
use Rattle.test_lang.specs.declared.op.Action.{Action}
use Rattle.test_lang.specs.declared.op.MemModel.{MemModel}
use Rattle.test_lang.specs.declared.op.MemModel.TheVariants.{Sc, Tso, Pso, Weak}
use Rattle.test_lang.specs.Actions.{op_of, is_full_fence, is_store_fence, is_load_fence, is_store_like, is_load_like}
use Rattle.test_lang.specs.Program.{Program, at_actions}
use Rattle.test_lang.specs.Values.{is_load, is_store, same_word}

-- a store or a store fence, and then a load or a load fence
abbrev pub is_store_load : Action → Action → Bool
is_store_load a b = is_store_like a && is_load_like b

-- two stores to different words
abbrev pub are_stores_apart : Action → Action → Bool
are_stores_apart a b = (is_store (op_of a) && is_store (op_of b)) && not (same_word (op_of a) (op_of b))

-- two loads or stores of one word, but a store and then a load
abbrev pub is_word_kept : Action → Action → Bool
is_word_kept a b = same_word (op_of a) (op_of b) && not (is_store (op_of a) && is_load (op_of b))

-- a full fence, or a store fence beside a store or a store fence, or a load fence beside a load or a load fence
abbrev pub is_fenced : Action → Action → Bool
is_fenced a b =
    (is_full_fence a || is_full_fence b)
    || (((is_store_fence a && is_store_like b) || (is_store_like a && is_store_fence b)) || ((is_load_fence a && is_load_like b) || (is_load_like a && is_load_fence b)))

-- Whether the model keeps the order of two actions of one thread, the first before the second.
abbrev pub keeps : MemModel → Action → Action → Bool
keeps Sc a b = true
keeps Tso a b = not (is_store_load a b)
keeps Pso a b = not (is_store_load a b) && not (are_stores_apart a b)
keeps Weak a b = is_fenced a b || is_word_kept a b

-- The kept pairs of nodes.
abbrev pub is_kept : MemModel → Program → ℕ → ℕ → Bool
is_kept m p a b = nat_lt a b && at_actions (λ first second. (first.0 == second.0) && keeps m first.1 second.1) p a b

abbrev pub IsKept : MemModel → Program → ℕ → ℕ → Type 0
IsKept m p a b = IsTrue (is_kept m p a b)
