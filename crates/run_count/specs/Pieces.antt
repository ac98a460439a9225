-- A text of runs that is read and counted by pieces.
use Rattle.std.specs.Prelude.{◌≡◌, ◌⊎◌, ℕ, ◌+◌, ◌^◌, ◌<◌, ◌≤◌, List, [], ◌∷◌, ◌++◌, map, length, Bool, true, false, Result, Ok, Err, slice_index_or}
use Rattle.std.specs.List.{concat}
use denote.Ref.{Bor}
use Rattle.tally.specs.declared.outcome.Outcome.{Outcome}
use Rattle.tally.specs.Counting.{Counting, HasCounted}
use Rattle.tally.specs.Tallies.{IsTally, total_of}
use Rattle.test_lang.specs.Program.{Program}
use Rattle.run_text.specs.declared.fault.RunFault.{RunFault}
use Rattle.run_text.specs.declared.fault.RunFault.TheVariants.{AfterDone, Memory as MemoryOfRuns}
use Rattle.run_text.specs.Pieces.{AreCut, Piece, line_of, moved, piece_read}
use Rattle.run_count.specs.declared.piece.PieceCount.{PieceCount}
use Rattle.run_count.specs.Counts.{AreCountedUpTo, text_of}

-- The runs that were counted are these. Where they are too many the tally may be that of some of them.
pub record IsCountOf (most : ℕ) (p : Program) (runs : List (List ℕ)) (count : PieceCount) : Type 0 where
  pub counted : AreCountedUpTo most p runs count.runs count.tally
  pub few : total_of count.tally ≤ count.runs

-- So many runs, and what a counter has counted.
pub record IsFinished (runs : ℕ) (counter : Counting) (is_done : Bool) (count : PieceCount) : Type 0 where
  pub number : count.runs ≡ runs
  pub end : count.is_done ≡ is_done
  pub pairs : count.tally ≡ counter.pairs
  pub counts : (outcomes : List Outcome) → HasCounted outcomes counter → IsTally outcomes count.tally

-- The piece was read to its end or to `done`, and its runs were counted.
pub record IsCountOfPiece (most : ℕ) (p : Program) (text : List ℕ) (count : PieceCount) : Type 0 where
  pub runs : List (List ℕ)
  pub read : piece_read (text_of p 0 text) ≡ Ok (record { runs = runs; is_done = count.is_done })
  pub counted : IsCountOf most p runs count
  pub few : count.runs ≤ length text

-- The piece is refused so, with lines that count from its first, or memory was refused.
pub record IsFaultOfPiece (p : Program) (text : List ℕ) (fault : RunFault) : Type 0 where
  pub line : line_of fault ≤ length text
  pub cause : (fault ≡ MemoryOfRuns) ⊎ (piece_read (text_of p 0 text) ≡ Err fault)

abbrev pub IsReadPiece : ℕ → Program → List ℕ → Result PieceCount RunFault → Type 0
IsReadPiece most p text (Ok count) = IsCountOfPiece most p text count
IsReadPiece most p text (Err fault) = IsFaultOfPiece p text fault

-- each piece was read
abbrev pub AreReadPieces : ℕ → Program → List (Bor (List ℕ)) → List (Result PieceCount RunFault) → Type 0
AreReadPieces most p pieces results = (index : ℕ) (piece : Bor (List ℕ)) (d : Result PieceCount RunFault) → index < length pieces → piece ≡ slice_index_or pieces index piece
    → IsReadPiece most p piece.now (slice_index_or results index d)

-- The same, piece by piece.
abbrev pub AreRead : ℕ → Program → List (List ℕ) → List (Result PieceCount RunFault) → Type 0
AreRead most p [] [] = Unit {0}
AreRead most p (text ∷ texts) (result ∷ results) = IsReadPiece most p text result × AreRead most p texts results
AreRead most p [] (result ∷ results) = ⊥
AreRead most p (text ∷ texts) [] = ⊥

-- The text was cut at line ends, and each piece was read.
pub record IsReadByPieces (most : ℕ) (p : Program) (text : List ℕ) (results : List (Result PieceCount RunFault)) : Type 0 where
  pub texts : List (List ℕ)
  pub cut : AreCut texts
  pub whole : concat texts ≡ text
  pub read : AreRead most p texts results

-- The pieces of a text were read, whose first line has this number, and whose lines can be numbered.
pub record AreReadFrom (most : ℕ) (p : Program) (line : ℕ) (texts : List (List ℕ)) (results : List (Result PieceCount RunFault)) : Type 0 where
  pub read : AreRead most p texts results
  pub short : line + length (concat texts) + 1 < 2 ^ 32

-- what reading each piece by itself gives
abbrev pub pieces_read : Program → List (List ℕ) → List (Result Piece RunFault)
pieces_read p texts = map (λ text. piece_read (text_of p 0 text)) texts

-- The next piece was joined to those before it.
pub record IsNextJoined (most : ℕ) (p : Program) (all : PieceCount) (next : Result PieceCount RunFault) (sum : PieceCount) : Type 0 where
  pub count : PieceCount
  pub given : next ≡ Ok count
  pub not_done : all.is_done ≡ false
  pub is_done : sum.is_done ≡ count.is_done
  pub counted : (before after : List (List ℕ)) → IsCountOf most p before all → IsCountOf most p after count → IsCountOf most p (before ++ after) sum

-- Memory was refused, or the next piece stands behind `done`, or it is refused itself.
pub data IsNextRefused (line : ℕ) (all : PieceCount) (next : Result PieceCount RunFault) (fault : RunFault) : Type 0 where
  no_memory : fault ≡ MemoryOfRuns → IsNextRefused line all next fault
  after_done : all.is_done ≡ true → fault ≡ AfterDone (line + all.runs + 1) → IsNextRefused line all next fault
  in_piece : (own : RunFault) → next ≡ Err own → all.is_done ≡ false → fault ≡ moved (line + all.runs) own → IsNextRefused line all next fault

abbrev pub JoinsNext : ℕ → Program → ℕ → PieceCount → Result PieceCount RunFault → Result PieceCount RunFault → Type 0
JoinsNext most p line all next (Ok sum) = IsNextJoined most p all next sum
JoinsNext most p line all next (Err fault) = IsNextRefused line all next fault

-- the next piece can be joined: its lines can be numbered
abbrev pub FitsBehind : ℕ → PieceCount → Result PieceCount RunFault → Type 0
FitsBehind line all (Ok count) = (line + all.runs + count.runs < 2 ^ 32) × (total_of count.tally ≤ count.runs)
FitsBehind line all (Err fault) = line + all.runs + line_of fault < 2 ^ 32
