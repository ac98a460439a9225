-- What a put does. The bytes that a sink holds are `None` where it doesn't tell them.
use Rattle.std.specs.Prelude.{ℕ, ◌≤◌, List, take, Option}
use Rattle.std.specs.Io.KnownBytes.{Appends, Keeps}
use Rattle.mt_base.specs.declared.sink.Put.{Put}
use Rattle.mt_base.specs.declared.sink.Put.TheVariants.{Wrote, Failed}

-- at least one byte was written, and no more than were offered
abbrev pub IsWithinPiece : Put → ℕ → Type 0
IsWithinPiece (Wrote n) offered = (1 ≤ n) × (n ≤ offered)
IsWithinPiece Failed offered = Unit {0}

-- the bytes written, which stand at the front of the piece, were appended, and nothing else
abbrev pub PutsNext : Option (List ℕ) → Option (List ℕ) → List ℕ → Put → Type 0
PutsNext old new piece (Wrote n) = Appends old new (take n piece)
PutsNext old new piece Failed = Keeps old new
