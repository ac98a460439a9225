-- Reading a piece run by run, and counting the outcomes of its runs.
use Rattle.std.proofs.Common.{◌≡◌, ◌∙◌, ℕ, ◌+◌, ◌≤◌, List, [], ◌∷◌, ◌++◌, Bool, true, false, map, length, take, drop, Result, Ok, Err, refl, sym, ap, subst, arith, length-append, length-drop, inl, inr, ◌⊎◌}
use Rattle.std.proofs.lemmas.List.{map-append, length-take}
use Rattle.tally.specs.declared.outcome.Outcome.{Outcome}
use Rattle.tally.specs.Counting.{Counting, HasCounted}
use Rattle.tally.specs.Tallies.{IsTally, total_of}
use Rattle.test_lang.specs.Program.{Program}
use Rattle.test_lang.specs.Runs.{IsRunOf}
use Rattle.test_lang.specs.Values.{load_count}
use Rattle.run_text.specs.declared.fault.RunFault.{RunFault}
use Rattle.run_text.specs.declared.fault.RunFault.TheVariants.{Memory}
use Rattle.run_text.specs.InPiece.{IsReadInPiece, ReadsInPiece}
use Rattle.run_text.specs.declared.piece_turn.PieceTurn.{PieceTurn}
use Rattle.run_text.specs.declared.piece_turn.PieceTurn.TheVariants.{Run, End, Done}
use Rattle.run_text.specs.Pieces.{Piece, in_piece, line_of, piece_read}
use Rattle.run_text.specs.Reader.{Reader}
use Rattle.run_text.specs.Runs.{AreRunsOf}
use Rattle.signature_plan.specs.Outcomes.{outcome_of}
use Rattle.run_count.specs.Counts.{text_of}
use Rattle.std.specs.Prelude.{IfErr, IfOk}
use Rattle.run_count.specs.declared.piece.PieceCount.{PieceCount}
use Rattle.run_count.specs.Pieces.{IsCountOfPiece, IsFaultOfPiece, IsFinished, IsReadPiece}

-- a list that was lent whole has the length of what came back
pub length_lent : (len : ℕ) (new old : List ℕ) → length new ≡ length old → len ≡ length old → length (take len (new ++ drop (length new) old)) ≡ length old
length_lent len new old same all = simp (length-take, length-append, length-drop) (omega (arith, same, all))

-- What a call tells of reading the piece, by what it gives.

pub turn-run : (t : PieceTurn) (before after : Reader) (old new : List ℕ) → t ≡ Run → ReadsInPiece (Ok t) old new before after → IsReadInPiece before after old new
turn-run t before after old new e h = subst (λ (u : PieceTurn). ReadsInPiece (Ok u) old new before after) e h

pub turn-end : (t : PieceTurn) (before after : Reader) (old new : List ℕ) → t ≡ End → ReadsInPiece (Ok t) old new before after → piece_read before ≡ Ok (record { runs = []; is_done = false })
turn-end t before after old new e h = subst (λ (u : PieceTurn). ReadsInPiece (Ok u) old new before after) e h

pub turn-done : (t : PieceTurn) (before after : Reader) (old new : List ℕ) → t ≡ Done → ReadsInPiece (Ok t) old new before after → piece_read before ≡ Ok (record { runs = []; is_done = true })
turn-done t before after old new e h = subst (λ (u : PieceTurn). ReadsInPiece (Ok u) old new before after) e h

-- these runs in front of what is read
abbrev pub in_pieces : List (List ℕ) → Result Piece RunFault → Result Piece RunFault
in_pieces [] read = read
in_pieces (run ∷ runs) read = in_piece run (in_pieces runs read)

in_pieces-push : (runs : List (List ℕ)) (run : List ℕ) (read : Result Piece RunFault) → in_pieces (runs ++ run ∷ []) read ≡ in_pieces runs (in_piece run read)
in_pieces-push [] run read = refl
in_pieces-push (first ∷ runs) run read = ap (in_piece first) (in_pieces-push runs run read)

in_pieces-ok : (runs : List (List ℕ)) (b : Bool) → in_pieces runs (Ok (record { runs = []; is_done = b })) ≡ Ok (record { runs = runs; is_done = b })
in_pieces-ok [] b = refl
in_pieces-ok (run ∷ runs) b = ap (in_piece run) (in_pieces-ok runs b)

in_pieces-err : (runs : List (List ℕ)) (fault : RunFault) → in_pieces runs (Err fault) ≡ Err fault
in_pieces-err [] fault = refl
in_pieces-err (run ∷ runs) fault = ap (in_piece run) (in_pieces-err runs fault)

runs-push : (loads : ℕ) (runs : List (List ℕ)) (run : List ℕ) → AreRunsOf loads runs → IsRunOf loads run → AreRunsOf loads (runs ++ run ∷ [])
runs-push loads [] run each is = (is, tt)
runs-push loads (first ∷ runs) run each is = (each.0, runs-push loads runs run each.1 is)

-- Some runs of a piece were read, so many, and those that are left are behind them. The counter has counted their outcomes.
pub record IsSoFar (most : ℕ) (p : Program) (start now : Reader) (count : ℕ) (counter : Counting) : Type 0 where
  pub runs : List (List ℕ)
  pub in_all : piece_read start ≡ in_pieces runs (piece_read now)
  pub each : AreRunsOf (load_count p) runs
  pub number : count ≡ length runs
  pub loads : now.loads ≡ load_count p
  pub shorter : count + length now.left ≤ length start.left
  pub lines : now.line + length now.left ≤ start.line + length start.left
  pub counted : count ≤ most → HasCounted (map (outcome_of p) runs) counter
  pub total : count ≤ most → total_of counter.pairs ≡ count
  pub few : total_of counter.pairs ≤ count

abbrev pub reader_of : List ℕ → ℕ → Reader
reader_of left loads = record { left = left; line = 0; loads = loads; is_done = false }

pub so_far-none : (most : ℕ) (p : Program) (start now : Reader) (counter : Counting) → now ≡ start → start.loads ≡ load_count p → HasCounted [] counter → counter.pairs ≡ [] → IsSoFar most p start now 0 counter
so_far-none most p start now counter same loads none empty =
    let at_start : IsSoFar most p start start 0 counter = record {
      runs = [];
      in_all = refl;
      each = tt;
      number = refl;
      loads = loads;
      shorter = omega arith;
      lines = omega arith;
      counted = λ _. none;
      total = λ _. ap total_of empty;
      few = omega (arith, ap total_of empty);
    } in
    subst (λ (r : Reader). IsSoFar most p start r 0 counter) (sym same) at_start

pub so_far-push : (most : ℕ) (p : Program) (start before after : Reader) (count : ℕ) (old new : Counting) (run taken : List ℕ) → taken ≡ run → IsSoFar most p start before count old → IsReadInPiece before after [] run
    → (count + 1 ≤ most → (outcomes : List Outcome) → HasCounted outcomes old → HasCounted (outcomes ++ outcome_of p taken ∷ []) new)
    → (count + 1 ≤ most → total_of new.pairs ≡ total_of old.pairs + 1)
    → total_of new.pairs ≤ total_of old.pairs + 1
    → IsSoFar most p start after (count + 1) new
so_far-push most p start before after count old new run taken is h read counts totals few =
    let same : read.run ≡ run = sym read.values in
    let less : count + 1 ≤ most → count ≤ most = λ fit. omega (arith, fit) in
    let line : after.line ≡ before.line + 1 = ap (λ (r : Reader). r.line) read.reader in
    record {
      runs = h.runs ++ run ∷ [];
      in_all = h.in_all ∙ ap (in_pieces h.runs) read.in_all ∙ ap (λ (r : List ℕ). in_pieces h.runs (in_piece r (piece_read after))) same ∙ sym (in_pieces-push h.runs run (piece_read after));
      each = runs-push (load_count p) h.runs run h.each (subst (λ (n : ℕ). IsRunOf n run) h.loads (subst (IsRunOf before.loads) same read.is_run));
      number = omega (arith, h.number, length-append h.runs (run ∷ []));
      loads = ap (λ (r : Reader). r.loads) read.reader ∙ h.loads;
      shorter = omega (arith, h.shorter, read.shorter);
      lines = omega (arith, h.lines, read.shorter, line);
      counted = λ fit. subst (λ (outcomes : List Outcome). HasCounted outcomes new) (sym (map-append (outcome_of p) h.runs (run ∷ [])))
          (subst (λ (r : List ℕ). HasCounted (map (outcome_of p) h.runs ++ outcome_of p r ∷ []) new) is
          (counts fit (map (outcome_of p) h.runs) (h.counted (less fit))));
      total = λ fit. totals fit ∙ ap (λ (n : ℕ). n + 1) (h.total (less fit));
      few = omega (arith, few, h.few);
    }

-- The piece is at its end.
pub so_far-end : (most : ℕ) (p : Program) (text : List ℕ) (now : Reader) (count : ℕ) (counter : Counting) (tally : List (Outcome × ℕ)) (is_done : Bool) → IsSoFar most p (text_of p 0 text) now count counter
    → piece_read now ≡ Ok (record { runs = []; is_done = is_done })
    → ((outcomes : List Outcome) → HasCounted outcomes counter → IsTally outcomes tally) → tally ≡ counter.pairs
    → IsCountOfPiece most p text (record { runs = count; tally = tally; is_done = is_done })
so_far-end most p text now count counter tally is_done h end tallies same = record {
  runs = h.runs;
  read = h.in_all ∙ ap (in_pieces h.runs) end ∙ in_pieces-ok h.runs is_done;
  counted = record {
    counted = record {
      each = h.each;
      number = h.number;
      counts = λ fit. tallies (map (outcome_of p) h.runs) (h.counted fit);
      sum = λ fit. ap total_of same ∙ h.total fit;
    };
    few = omega (arith, h.few, ap total_of same);
  };
  few = omega (arith, h.shorter);
}

-- A line is refused.
pub so_far-refused : (most : ℕ) (p : Program) (text : List ℕ) (now : Reader) (count : ℕ) (counter : Counting) (fault : RunFault) → IsSoFar most p (text_of p 0 text) now count counter
    → (fault ≡ Memory) ⊎ (piece_read now ≡ Err fault) → line_of fault ≤ now.line + length now.left → IsFaultOfPiece p text fault
so_far-refused most p text now count counter fault h refused line = record {
  line = omega (arith, line, h.lines);
  cause = cause refused;
}
  where
    cause : (fault ≡ Memory) ⊎ (piece_read now ≡ Err fault) → (fault ≡ Memory) ⊎ (piece_read (text_of p 0 text) ≡ Err fault)
    cause (inl none) = inl none
    cause (inr e) = inr (h.in_all ∙ ap (in_pieces h.runs) e ∙ in_pieces-err h.runs fault)

-- Memory was refused.
pub no_memory : (p : Program) (text : List ℕ) (fault : RunFault) → fault ≡ Memory → IsFaultOfPiece p text fault
no_memory p text fault none =
    let line : line_of fault ≡ 0 = ap line_of none in
    record { line = omega (arith, line); cause = inl none }

-- The piece is at its end, and what was counted is given, or memory was refused.
pub so_far-finished : (most : ℕ) (p : Program) (text : List ℕ) (now : Reader) (runs : ℕ) (counter : Counting) (is_done : Bool) (result : Result PieceCount RunFault) → IsSoFar most p (text_of p 0 text) now runs counter
    → piece_read now ≡ Ok (record { runs = []; is_done = is_done })
    → IfOk result (IsFinished runs counter is_done) → IfErr result (λ fault. fault ≡ Memory) → IsReadPiece most p text result
so_far-finished most p text now runs counter is_done (Err fault) h end counted refused = no_memory p text fault refused
so_far-finished most p text now runs counter is_done (Ok count) h end counted refused =
    let number : runs ≡ count.runs = sym counted.number in
    so_far-end most p text now count.runs counter count.tally count.is_done (subst (λ (n : ℕ). IsSoFar most p (text_of p 0 text) now n counter) number h)
    (end ∙ ap (λ (b : Bool). Ok (record { runs = []; is_done = b })) (sym counted.end)) counted.counts counted.pairs
