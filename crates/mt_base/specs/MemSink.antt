-- A sink in memory, and what a put does to it.
use Rattle.std.specs.Prelude.{ℕ, Bool, ◌==◌, ◌||◌, ◌-◌, List, ◌++◌, length, take, min, if◌then◌else◌}
use Rattle.mt_base.specs.Calls.{CallCounts, is_next_listed, after_call}
use Rattle.mt_base.specs.declared.sink.Put.{Put}
use Rattle.mt_base.specs.declared.sink.Put.TheVariants.{Wrote, Failed}

pub record MemSinkState : Type 0 where
  -- the bytes that were appended
  pub held : List ℕ
  -- how many more it can take
  pub room : ℕ
  -- how many bytes a put takes at most
  pub most : ℕ
  pub calls : CallCounts

-- the next put fails
abbrev pub is_put_refused : MemSinkState → Bool
is_put_refused sink = sink.room == 0 || is_next_listed sink.calls

-- how many bytes of a piece it takes
abbrev pub accepted : MemSinkState → List ℕ → ℕ
accepted sink piece = if is_put_refused sink then 0 else min (min sink.most (length piece)) sink.room

-- what it answers
abbrev pub put_answer : MemSinkState → List ℕ → Put
put_answer sink piece = if is_put_refused sink then Failed else Wrote (accepted sink piece)

-- and what it leaves
abbrev pub after_put : MemSinkState → List ℕ → MemSinkState
after_put sink piece = record sink {
  held = sink.held ++ take (accepted sink piece) piece;
  room = sink.room - accepted sink piece;
  calls = after_call (is_put_refused sink) sink.calls;
}
