-- What a call in a piece tells of reading the piece.
use Rattle.std.proofs.Common.{◌≡◌, ◌≢◌, ◌⊎◌, ◌∙◌, ℕ, ◌+◌, ◌≤◌, List, [], ◌∷◌, Bool, true, false, refl, sym, ap, arith, subst, cond, length, Result, Ok, Err, inl, inr}
use Rattle.std.specs.Prelude.{IfErr}
use Rattle.run_text.specs.declared.fault.RunFault.{RunFault}
use Rattle.run_text.specs.declared.fault.RunFault.TheVariants.{BadRunLine, WrongCount, ValueRange, NoDone, AfterDone, Memory}
use Rattle.run_text.specs.declared.piece_turn.PieceTurn.{PieceTurn}
use Rattle.run_text.specs.declared.piece_turn.PieceTurn.TheVariants.{Run, End, Done}
use Rattle.run_text.specs.Grammar.{CallMeans}
use Rattle.run_text.specs.RunLine.{Refuses}
use Rattle.run_text.specs.Reader.{Reader, Turn, turn, Takes, Gives}
use Rattle.run_text.specs.Pieces.{in_piece, line_of, piece_on, piece_at, piece_read}
use Rattle.run_text.specs.InPiece.{GivesInPiece, IsReadInPiece, ReadsInPiece}
use Rattle.run_text.proofs.Ended.{turn_ended}
use Rattle.run_text.proofs.Meaning.{turn_means}
use Rattle.run_text.proofs.PiecesRead.{piece-turn}
use Rattle.run_text.proofs.Turns.{turn-run, run-shorter}

piece-some : (r : Reader) → r.left ≢ [] → piece_read r ≡ piece_on piece_read (turn r)
piece-some r some = piece-turn r ∙ by r.left refl
  where
    by : (xs : List ℕ) → r.left ≡ xs → piece_at piece_read r xs ≡ piece_on piece_read (turn r)
    by [] e = absurd (some e)
    by (c ∷ cs) e = refl

piece-none : (r : Reader) → r.left ≡ [] → piece_read r ≡ Ok (record { runs = []; is_done = false })
piece-none r e = piece-turn r ∙ ap (piece_at piece_read r) e

module _ (before after : Reader) (old new : List ℕ) (some : before.left ≢ []) where
  by_turn : (o : Result Turn RunFault) → turn before ≡ o → piece_read before ≡ piece_on piece_read o
  by_turn o e = piece-some before some ∙ ap (piece_on piece_read) e

  by_more : (t : Turn) (more : Bool) → turn before ≡ Ok t → t.more ≡ more → piece_read before ≡ cond more (in_piece t.values (piece_read t.reader)) (Ok (record { runs = []; is_done = true }))
  by_more t more e is = by_turn (Ok t) e ∙ ap (λ (b : Bool). cond b (in_piece t.values (piece_read t.reader)) (Ok (record { runs = []; is_done = true }))) is

  read-run : (t : Turn) → turn before ≡ Ok t → Takes t true old new after → IsReadInPiece before after old new
  read-run t e h =
      let more : t.more ≡ true = sym h.answer in
      let next = turn-run before t e more in
      subst (λ (r : Reader). IsReadInPiece before r old new) (sym h.reader_moved) (record {
        run = t.values;
        is_run = next.run;
        values = h.values_added;
        reader = next.reader;
        shorter = run-shorter before t next;
        in_all = by_more t true e more;
      })

  read-refused : (fault : RunFault) → Refuses fault (turn before) → (fault ≡ Memory) ⊎ (piece_read before ≡ Err fault)
  read-refused Memory h = inl refl
  read-refused (BadRunLine line) h = inr (by_turn (Err (BadRunLine line)) h)
  read-refused (WrongCount line want got) h = inr (by_turn (Err (WrongCount line want got)) h)
  read-refused (ValueRange line) h = inr (by_turn (Err (ValueRange line)) h)
  read-refused (NoDone line) h = inr (by_turn (Err (NoDone line)) h)
  read-refused (AfterDone line) h = inr (by_turn (Err (AfterDone line)) h)

  read-more : (o : Result Turn RunFault) → turn before ≡ o → Gives (Ok true) old new before after o → IsReadInPiece before after old new
  read-more (Ok t) e h = read-run t e h
  read-more (Err fault) e h = absurd h

  read-done : (o : Result Turn RunFault) → turn before ≡ o → Gives (Ok false) old new before after o → piece_read before ≡ Ok (record { runs = []; is_done = true })
  read-done (Ok t) e h = by_more t false e (sym h.answer)
  read-done (Err fault) e h = absurd h

pub call-reads_in_piece : (before after : Reader) (old new : List ℕ) (result : Result PieceTurn RunFault) → GivesInPiece result old new before after → ReadsInPiece result old new before after
call-reads_in_piece before after old new (Ok Run) h = read-more before after old new h.0 (turn before) refl h.1
call-reads_in_piece before after old new (Ok End) h = piece-none before h.0
call-reads_in_piece before after old new (Ok Done) h = read-done before after old new h.0 (turn before) refl h.1
call-reads_in_piece before after old new (Err fault) h = read-refused before after old new h.0 fault h.1.refusal

-- A refusal is that of the next line, or of the one behind it, which then begins.

module _ (r : Reader) (some : r.left ≢ []) where
  some-length : 1 ≤ length r.left
  some-length = by r.left refl
    where
      by : (xs : List ℕ) → r.left ≡ xs → 1 ≤ length xs
      by [] e = absurd (some e)
      by (c ∷ cs) e = omega arith

  line-means : (fault : RunFault) → CallMeans r (Err fault) → line_of fault ≤ r.line + length r.left
  line-means (NoDone line) h = omega (arith, h.0)
  line-means (BadRunLine line) h = omega (arith, h.0)
  line-means (WrongCount line want got) h = omega (arith, h.0)
  line-means (ValueRange line) h = omega (arith, h.0)
  line-means (AfterDone line) h = omega (arith, h.0, some-length)
  line-means Memory h = omega arith

  refused-line : r.is_done ≡ false → (fault : RunFault) → turn r ≡ Err fault → line_of fault ≤ r.line + length r.left
  refused-line not_done fault e = line-means fault (subst (CallMeans r) e (turn_means r not_done))

  refuses-line : r.is_done ≡ false → (fault : RunFault) → Refuses fault (turn r) → line_of fault ≤ r.line + length r.left
  refuses-line not_done Memory h = omega arith
  refuses-line not_done (BadRunLine line) h = refused-line not_done (BadRunLine line) h
  refuses-line not_done (WrongCount line want got) h = refused-line not_done (WrongCount line want got) h
  refuses-line not_done (ValueRange line) h = refused-line not_done (ValueRange line) h
  refuses-line not_done (NoDone line) h = refused-line not_done (NoDone line) h
  refuses-line not_done (AfterDone line) h = refused-line not_done (AfterDone line) h

  -- where `done` was read nothing is refused
  no_fault-done : (b : Bool) → r.is_done ≡ b → (fault : RunFault) → Refuses fault (turn r) → line_of fault ≤ r.line + length r.left
  no_fault-done false e fault h = refuses-line e fault h
  no_fault-done true e fault h = by fault (subst (Refuses fault) (turn_ended r e) h)
    where
      by : (fault : RunFault) → Refuses {X = Turn} fault (Ok (record { more = false; values = []; reader = r })) → line_of fault ≤ r.line + length r.left
      by Memory h = omega arith
      by (BadRunLine line) h = absurd cc
      by (WrongCount line want got) h = absurd cc
      by (ValueRange line) h = absurd cc
      by (NoDone line) h = absurd cc
      by (AfterDone line) h = absurd cc

pub gives-line : (before after : Reader) (old new : List ℕ) (result : Result PieceTurn RunFault) → GivesInPiece result old new before after → IfErr result (λ fault. line_of fault ≤ before.line + length before.left)
gives-line before after old new (Ok turn) h = tt
gives-line before after old new (Err fault) h = no_fault-done before h.0 before.is_done refl fault h.1.refusal
