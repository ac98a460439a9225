-- What a take does. The bytes that a source has left are `None` where it doesn't tell them.
use Rattle.std.specs.Prelude.{ℕ, ◌≤◌, List, take, Option}
use Rattle.std.specs.Io.KnownBytes.{Consumes, IsAtEnd, Keeps}
use Rattle.mt_base.specs.declared.source.Take.{Take}
use Rattle.mt_base.specs.declared.source.Take.TheVariants.{Took, End, Failed}

-- at least one byte was taken, and no more than there was room for
abbrev pub IsWithinRoom : Take → ℕ → Type 0
IsWithinRoom (Took n) room = (1 ≤ n) × (n ≤ room)
IsWithinRoom End room = Unit {0}
IsWithinRoom Failed room = Unit {0}

-- The bytes taken, which stand at the front of the buffer, were the next ones. `End` comes only where nothing is left.
abbrev pub TakesNext : Option (List ℕ) → Option (List ℕ) → List ℕ → Take → Type 0
TakesNext old new buf (Took n) = Consumes old new (take n buf)
TakesNext old new buf End = Keeps old new × IsAtEnd new
TakesNext old new buf Failed = Keeps old new
