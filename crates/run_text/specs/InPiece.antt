-- What a call gives that reads the next line in a piece, and what it tells of reading the piece.
use Rattle.std.specs.Prelude.{◌≡◌, ◌≢◌, ◌⊎◌, ℕ, ◌<◌, List, [], ◌++◌, length, true, false, Result, Ok, Err}
use Rattle.test_lang.specs.Runs.{IsRunOf}
use Rattle.run_text.specs.declared.fault.RunFault.{RunFault}
use Rattle.run_text.specs.declared.fault.RunFault.TheVariants.{Memory}
use Rattle.run_text.specs.declared.piece_turn.PieceTurn.{PieceTurn}
use Rattle.run_text.specs.declared.piece_turn.PieceTurn.TheVariants.{Run, End, Done}
use Rattle.run_text.specs.Reader.{Reader, behind, turn, Gives}
use Rattle.run_text.specs.Pieces.{in_piece, piece_read}

-- no byte is left, and nothing is changed
abbrev pub EndsPiece : List ℕ → List ℕ → Reader → Reader → Type 0
EndsPiece old new before after = (before.left ≡ []) × (new ≡ old) × (after ≡ before)

-- Where a byte is left the call is that of the next line.
abbrev pub GivesInPiece : Result PieceTurn RunFault → List ℕ → List ℕ → Reader → Reader → Type 0
GivesInPiece (Ok Run) old new before after = (before.left ≢ []) × Gives (Ok true) old new before after (turn before)
GivesInPiece (Ok Done) old new before after = (before.left ≢ []) × Gives (Ok false) old new before after (turn before)
GivesInPiece (Ok End) old new before after = EndsPiece old new before after
GivesInPiece (Err fault) old new before after = (before.left ≢ []) × Gives (Err fault) old new before after (turn before)

-- A run line of a piece was read: the run stands behind the old values, and what is read of the piece is this run and then what is read behind it.
pub record IsReadInPiece (before after : Reader) (old new : List ℕ) : Type 0 where
  pub run : List ℕ
  pub is_run : IsRunOf before.loads run
  pub values : new ≡ old ++ run
  pub reader : after ≡ behind before after.left false
  pub shorter : length after.left < length before.left
  pub in_all : piece_read before ≡ in_piece run (piece_read after)

-- What a call tells of reading the piece.
abbrev pub ReadsInPiece : Result PieceTurn RunFault → List ℕ → List ℕ → Reader → Reader → Type 0
ReadsInPiece (Ok Run) old new before after = IsReadInPiece before after old new
ReadsInPiece (Ok End) old new before after = piece_read before ≡ Ok (record { runs = []; is_done = false })
ReadsInPiece (Ok Done) old new before after = piece_read before ≡ Ok (record { runs = []; is_done = true })
ReadsInPiece (Err fault) old new before after = (fault ≡ Memory) ⊎ (piece_read before ≡ Err fault)
