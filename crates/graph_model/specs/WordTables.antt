-- Tables with an entry for each word.
use Rattle.std.specs.Prelude.{ℕ, List, Option, None, slice_index_or}
use Rattle.test_lang.specs.declared.op.Action.{Action}
use Rattle.test_lang.specs.declared.op.Action.TheVariants.{Load, Store, Fence}

-- what stands at the word of the action, if it has one
abbrev pub at_word : List (Option ℕ) → Action → Option ℕ
at_word nodes (Load word) = slice_index_or nodes word None
at_word nodes (Store word) = slice_index_or nodes word None
at_word nodes (Fence kind) = None
