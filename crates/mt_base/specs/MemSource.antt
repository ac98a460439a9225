-- A source in memory, and what a take does to it.
use Rattle.std.specs.Prelude.{ℕ, ◌==◌, List, length, drop, min, if◌then◌else◌}
use Rattle.mt_base.specs.Calls.{CallCounts, is_next_listed, after_call}
use Rattle.mt_base.specs.declared.source.Take.{Take}
use Rattle.mt_base.specs.declared.source.Take.TheVariants.{Took, End, Failed}

pub record MemSourceState : Type 0 where
  -- the bytes that are left
  pub left : List ℕ
  -- how many bytes a take gives at most
  pub most : ℕ
  pub calls : CallCounts

-- how many bytes the next take gives, where there is room for so many
abbrev pub given : MemSourceState → ℕ → ℕ
given source room = if is_next_listed source.calls then 0 else min (min source.most room) (length source.left)

-- what it answers
abbrev pub take_answer : MemSourceState → ℕ → Take
take_answer source room = if is_next_listed source.calls then Failed else if length source.left == 0 then End else Took (given source room)

-- and what it leaves
abbrev pub after_take : MemSourceState → ℕ → MemSourceState
after_take source room = record source {
  left = drop (given source room) source.left;
  calls = after_call (is_next_listed source.calls) source.calls;
}
