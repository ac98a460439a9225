-- What reading a piece of a text gives, and what reading all pieces of it tells.
use Rattle.std.specs.Prelude.{◌≡◌, ℕ, zero, suc, ◌+◌, List, [], ◌∷◌, ◌++◌, length, Bool, true, false, Result, Ok, Err, if◌then◌else◌}
use Rattle.run_text.specs.declared.fault.RunFault.{RunFault}
use Rattle.run_text.specs.declared.fault.RunFault.TheVariants.{BadRunLine, WrongCount, ValueRange, NoDone, AfterDone, Memory}
use Rattle.run_text.specs.Reader.{Reader, Turn, turn}
use Rattle.run_text.specs.Runs.{with_runs, reading}

-- The runs of a piece, and whether `done` stands behind them. Nothing stands behind `done` in a piece.
pub record Piece : Type 0 where
  pub runs : List (List ℕ)
  pub is_done : Bool

abbrev pub in_piece : List ℕ → Result Piece RunFault → Result Piece RunFault
in_piece run (Ok piece) = Ok (record { runs = run ∷ piece.runs; is_done = piece.is_done })
in_piece run (Err fault) = Err fault

abbrev pub piece_on : (Reader → Result Piece RunFault) → Result Turn RunFault → Result Piece RunFault
piece_on more (Err fault) = Err fault
piece_on more (Ok t) = if t.more then in_piece t.values (more t.reader) else Ok (record { runs = []; is_done = true })

-- where no byte is left the piece ends
abbrev pub piece_at : (Reader → Result Piece RunFault) → Reader → List ℕ → Result Piece RunFault
piece_at more r [] = Ok (record { runs = []; is_done = false })
piece_at more r (c ∷ cs) = piece_on more (turn r)

-- what is read by so many calls
abbrev pub piece_by : ℕ → Reader → Result Piece RunFault
piece_by zero r = Ok (record { runs = []; is_done = false })
piece_by (suc calls) r = piece_at (piece_by calls) r r.left

-- What reading a piece gives: the runs up to its end or up to `done`, or the refusal of its first bad line. Each call reads a byte at least.
abbrev pub piece_read : Reader → Result Piece RunFault
piece_read r = piece_by (length r.left) r

-- a reader of these bytes
abbrev pub reads_bytes : Reader → List ℕ → Reader
reads_bytes r bytes = record { left = bytes; line = r.line; loads = r.loads; is_done = false }

-- the reader behind so many lines
abbrev pub behind_lines : Reader → ℕ → List ℕ → Reader
behind_lines r lines left = record { left = left; line = r.line + lines; loads = r.loads; is_done = false }

-- `done` was read, and these bytes stand behind it; the next line has this number
abbrev pub done_before : ℕ → List (List ℕ) → List ℕ → Result (List (List ℕ)) RunFault
done_before line runs [] = Ok runs
done_before line runs (c ∷ cs) = Err (AfterDone line)

-- what is read of a text whose first piece gives this, and behind which these bytes stand
abbrev pub read_behind : Reader → List ℕ → Result Piece RunFault → Result (List (List ℕ)) RunFault
read_behind r bytes (Err fault) = Err fault
read_behind r bytes (Ok piece) =
    if piece.is_done
    then done_before (r.line + length piece.runs + 1) piece.runs bytes
    else with_runs piece.runs (reading (behind_lines r (length piece.runs) bytes))

-- the line of a refusal
abbrev pub line_of : RunFault → ℕ
line_of (BadRunLine line) = line
line_of (WrongCount line want got) = line
line_of (ValueRange line) = line
line_of (NoDone line) = line
line_of (AfterDone line) = line
line_of Memory = 0

-- The line numbers of a piece count from 0. This is the refusal in a text, where the piece begins at a line with this number.
abbrev pub moved : ℕ → RunFault → RunFault
moved by (BadRunLine line) = BadRunLine (by + line)
moved by (WrongCount line want got) = WrongCount (by + line) want got
moved by (ValueRange line) = ValueRange (by + line)
moved by (NoDone line) = NoDone (by + line)
moved by (AfterDone line) = AfterDone (by + line)
moved by Memory = Memory

abbrev pub moved_read : {X : Type 0} → ℕ → Result X RunFault → Result X RunFault
moved_read by (Ok x) = Ok x
moved_read by (Err fault) = Err (moved by fault)

-- the reader of a piece by itself
abbrev pub piece_reader : ℕ → List ℕ → Reader
piece_reader loads bytes = record { left = bytes; line = 0; loads = loads; is_done = false }

-- what a text gives by this piece, and by those behind it
abbrev pub joined_on : ℕ → Piece → List (Result Piece RunFault) → (ℕ → Result (List (List ℕ)) RunFault) → Result (List (List ℕ)) RunFault
joined_on line piece [] more = if piece.is_done then Ok piece.runs else with_runs piece.runs (more (line + length piece.runs))
joined_on line piece (next ∷ others) more =
    if piece.is_done then Err (AfterDone (line + length piece.runs + 1)) else with_runs piece.runs (more (line + length piece.runs))

-- What the pieces of a text, read by themselves, tell of the text, whose first line has this number: no piece is empty.
abbrev pub joined : List (Result Piece RunFault) → ℕ → Result (List (List ℕ)) RunFault
joined [] line = Err (NoDone line)
joined (Err fault ∷ others) line = Err (moved line fault)
joined (Ok piece ∷ others) line = joined_on line piece others (joined others)

-- the bytes end in a line feed
abbrev pub EndsInFeed : List ℕ → Type 0
EndsInFeed bytes = (front : List ℕ) × (bytes ≡ front ++ 10 ∷ [])

abbrev pub IsSome : List ℕ → Type 0
IsSome [] = ⊥
IsSome (c ∷ cs) = Unit {0}

-- No piece is empty, and each but the last ends in a line feed.
abbrev pub AreCut : List (List ℕ) → Type 0
AreCut [] = Unit {0}
AreCut (piece ∷ []) = IsSome piece
AreCut (piece ∷ next ∷ others) = EndsInFeed piece × AreCut (next ∷ others)
