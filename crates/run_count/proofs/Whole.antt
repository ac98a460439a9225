-- What the pieces of a text tell of the text.
use Rattle.std.proofs.Common.{◌≡◌, ◌∙◌, ◌⊎◌, ℕ, ◌+◌, ◌^◌, ◌<◌, ◌≤◌, List, [], ◌∷◌, All, Bor, map, length, Result, Ok, Err, refl, sym, subst, arith, length-append, inl, inr}
use Rattle.std.specs.Prelude.{IfErr, IfOk}
use Rattle.std.specs.List.{concat}
use Rattle.std.proofs.lemmas.List.Elements.{All-cons, All-nil}
use Rattle.tally.specs.declared.outcome.Outcome.{Outcome}
use Rattle.test_lang.specs.Program.{Program}
use Rattle.run_text.specs.declared.fault.RunFault.{RunFault}
use Rattle.run_text.specs.declared.fault.RunFault.TheVariants.{Memory}
use Rattle.run_text.specs.Pieces.{joined}
use Rattle.run_text.specs.Runs.{reading}
use Rattle.run_text.proofs.PiecesRead.{pieces-read}
use Rattle.run_count.specs.declared.piece.PieceCount.{PieceCount}
use Rattle.run_count.specs.Counts.{AreCountedUpTo, RefusesText, text_of}
use Rattle.run_count.specs.Pieces.{AreReadFrom, IsReadByPieces, pieces_read}
use Rattle.run_count.proofs.Joining.{read-from}

-- each piece is as short as the text
pub all-short : (most : ℕ) (pieces : List (Bor (List ℕ))) → length (concat (map (λ piece. piece.now) pieces)) < most → All (λ (piece : Bor (List ℕ)). length piece.now < most) pieces
all-short most [] short = All-nil (λ (piece : Bor (List ℕ)). length piece.now < most)
all-short most (piece ∷ pieces) short =
    let both = length-append piece.now (concat (map (λ piece. piece.now) pieces)) in
    All-cons (λ (piece : Bor (List ℕ)). length piece.now < most) piece pieces (omega (arith, short, both)) (all-short most pieces (omega (arith, short, both)))

module _ (most : ℕ) (p : Program) (line : ℕ) (text : List ℕ) (results : List (Result PieceCount RunFault)) (by_pieces : IsReadByPieces most p text results) (short : line + length text + 1 < 2 ^ 32) where
  read : AreReadFrom most p line by_pieces.texts results
  read = read-from most p line text results by_pieces short

  read-whole : reading (text_of p line text) ≡ joined (pieces_read p by_pieces.texts) line
  read-whole = pieces-read by_pieces.texts (text_of p line text) by_pieces.cut refl (sym by_pieces.whole)

  pub whole-ok : (result : Result (ℕ × List (Outcome × ℕ)) RunFault)
      → IfOk result (λ counted. (q : Program) (pieces : List (List ℕ)) → AreReadFrom most q line pieces results → (runs : List (List ℕ)) × (joined (pieces_read q pieces) line ≡ Ok runs) × AreCountedUpTo most q runs counted.0 counted.1)
      → IfOk result (λ counted. (runs : List (List ℕ)) × (reading (text_of p line text) ≡ Ok runs) × AreCountedUpTo most p runs counted.0 counted.1)
  whole-ok (Ok counted) h = let found = h p by_pieces.texts read in (found.0, read-whole ∙ found.1, found.2)
  whole-ok (Err fault) h = h

  pub whole-few : (result : Result (ℕ × List (Outcome × ℕ)) RunFault)
      → IfOk result (λ counted. (q : Program) (pieces : List (List ℕ)) → AreReadFrom most q line pieces results → counted.0 ≤ length (concat pieces))
      → IfOk result (λ counted. counted.0 ≤ length text)
  whole-few (Ok counted) h = subst (λ (bytes : List ℕ). counted.0 ≤ length bytes) by_pieces.whole (h p by_pieces.texts read)
  whole-few (Err fault) h = h

  pub whole-err : (result : Result (ℕ × List (Outcome × ℕ)) RunFault)
      → IfErr result (λ fault. (q : Program) (pieces : List (List ℕ)) → AreReadFrom most q line pieces results → (fault ≡ Memory) ⊎ (joined (pieces_read q pieces) line ≡ Err fault))
      → IfErr result (RefusesText (text_of p line text))
  whole-err (Ok counted) h = h
  whole-err (Err fault) h = by (h p by_pieces.texts read)
    where
      by : (fault ≡ Memory) ⊎ (joined (pieces_read p by_pieces.texts) line ≡ Err fault) → RefusesText (text_of p line text) fault
      by (inl none) = inl none
      by (inr refused) = inr (read-whole ∙ refused)
