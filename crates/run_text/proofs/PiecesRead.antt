-- Reading a text by pieces.
use Rattle.std.proofs.Common.{◌≡◌, ◌≢◌, ℕ, zero, suc, ◌+◌, ◌<◌, ◌≤◌, List, [], ◌∷◌, ◌++◌, Bool, true, false, refl, ap, arith, ◌∙◌, sym, subst, cond, Option, Some, None, Result, Ok, Err, length, map, append_assoc, ◌⊎◌, inl, inr, ⊎_elim, eqb}
use Rattle.std.specs.Prelude.{codes}
use Rattle.std.specs.Str.{bytes_eq}
use Rattle.std.specs.List.{AllByRecursion, concat}
use Rattle.std.proofs.lemmas.Bool.{eqb-true, eqb-false}
use Rattle.std.proofs.lemmas.List.{append-nil}
use Rattle.test_lang.specs.Text.Line.{IsLine, StartsWithLine, closed, first_line}
use Rattle.test_lang.proofs.TextLemmas.Lines.{first_line-of}
use Rattle.run_text.specs.declared.fault.RunFault.{RunFault}
use Rattle.run_text.specs.declared.fault.RunFault.TheVariants.{NoDone, AfterDone, WrongCount, ValueRange}
use Rattle.run_text.specs.Parts.{all_fit}
use Rattle.run_text.specs.RunLine.{run_values, judged, run_of}
use Rattle.run_text.specs.Reader.{Reader, Turn, behind, end_at, run_at, line_at, turn}
use Rattle.run_text.specs.Runs.{with_run, with_runs, go_on, reading}
use Rattle.run_text.specs.Pieces.{Piece, in_piece, piece_on, piece_at, piece_by, piece_read, reads_bytes, behind_lines, done_before, read_behind, moved, moved_read, piece_reader, joined, EndsInFeed, IsSome, AreCut}
use Rattle.run_text.proofs.Runs.{reading-turn, reading-run, reading-done, reading-refused}
use Rattle.run_text.proofs.Turns.{turn-run, run-shorter}

-- A piece is read in turn.

-- Reading on in two ways that agree where fewer bytes are left.
piece_on-same : (r : Reader) (f g : Reader → Result Piece RunFault) → ((after : Reader) → length after.left < length r.left → f after ≡ g after)
    → piece_on f (turn r) ≡ piece_on g (turn r)
piece_on-same r f g same = by_turn (turn r) refl
  where
    by_more : (t : Turn) → turn r ≡ Ok t → (more : Bool) → t.more ≡ more
        → cond more (in_piece t.values (f t.reader)) (Ok (record { runs = []; is_done = true })) ≡ cond more (in_piece t.values (g t.reader)) (Ok (record { runs = []; is_done = true }))
    by_more t e true is = ap (in_piece t.values) (same t.reader (run-shorter r t (turn-run r t e is)))
    by_more t e false is = refl

    by_turn : (o : Result Turn RunFault) → turn r ≡ o → piece_on f o ≡ piece_on g o
    by_turn (Err fault) e = refl
    by_turn (Ok t) e = by_more t e t.more refl

piece_at-same : (r : Reader) (f g : Reader → Result Piece RunFault) → ((after : Reader) → length after.left < length r.left → f after ≡ g after)
    → (bytes : List ℕ) → piece_at f r bytes ≡ piece_at g r bytes
piece_at-same r f g same [] = refl
piece_at-same r f g same (c ∷ cs) = piece_on-same r f g same

no_bytes : (xs : List ℕ) → length xs ≤ 0 → xs ≡ []
no_bytes [] h = refl
no_bytes (c ∷ cs) h = absurd (omega arith)

piece_at-none : (f : Reader → Result Piece RunFault) (r : Reader) (xs : List ℕ) → xs ≡ [] → piece_at f r xs ≡ Ok (record { runs = []; is_done = false })
piece_at-none f r xs e = ap (piece_at f r) e

piece_by-enough : (n m : ℕ) (r : Reader) → length r.left ≤ n → length r.left ≤ m → piece_by n r ≡ piece_by m r
piece_by-enough zero zero r a b = refl
piece_by-enough zero (suc m) r a b = sym (piece_at-none (piece_by m) r r.left (no_bytes r.left a))
piece_by-enough (suc n) zero r a b = piece_at-none (piece_by n) r r.left (no_bytes r.left b)
piece_by-enough (suc n) (suc m) r a b = piece_at-same r (piece_by n) (piece_by m) (λ after shorter. piece_by-enough n m after (omega (arith, shorter, a)) (omega (arith, shorter, b))) r.left

pub piece-turn : (r : Reader) → piece_read r ≡ piece_at piece_read r r.left
piece-turn r =
    piece_by-enough (length r.left) (suc (length r.left)) r (omega arith) (omega arith)
    ∙ piece_at-same r (piece_by (length r.left)) piece_read (λ after shorter. piece_by-enough (length r.left) (length after.left) after (omega (arith, shorter)) (omega arith)) r.left

-- A line stands next.

abbrev IsOn : List ℕ → Bool
IsOn line = bytes_eq line (codes "done")

module _ (r : Reader) (not_done : r.is_done ≡ false) (line rest : List ℕ) (h : StartsWithLine r.left line rest) where
  turn-line : turn r ≡ line_at r (Some (line, rest))
  turn-line =
      ap (λ (b : Bool). cond b (Ok (record { more = false; values = []; reader = r })) (line_at r (first_line r.left))) not_done
      ∙ ap (line_at r) (first_line-of r.left line rest h)

  turn-end : IsOn line ≡ true → turn r ≡ end_at r rest
  turn-end e = turn-line ∙ ap (λ (b : Bool). cond b (end_at r rest) (run_at r rest (run_of r.line r.loads line))) e

  turn-read : IsOn line ≡ false → (o : Result (List ℕ) RunFault) → run_of r.line r.loads line ≡ o → turn r ≡ run_at r rest o
  turn-read e o is = turn-line ∙ ap (λ (b : Bool). cond b (end_at r rest) (run_at r rest (run_of r.line r.loads line))) e ∙ ap (run_at r rest) is

-- not empty, since a line feed stands in it
closed-some : (f : Reader → Result Piece RunFault) (r : Reader) (line rest xs : List ℕ) → xs ≡ line ++ 10 ∷ rest → piece_at f r xs ≡ piece_on f (turn r)
closed-some f r [] rest xs e = ap (piece_at f r) e
closed-some f r (c ∷ cs) rest xs e = ap (piece_at f r) e

module _ (r : Reader) (line rest : List ℕ) (whole : r.left ≡ line ++ 10 ∷ rest) where
  pub piece-line : (o : Result Turn RunFault) → turn r ≡ o → piece_read r ≡ piece_on piece_read o
  piece-line o e = piece-turn r ∙ closed-some piece_read r line rest r.left whole ∙ ap (piece_on piece_read) e

-- The first line of a piece, and what stands behind it.

module _ (r : Reader) (ys : List ℕ) where
  -- one run more in front
  behind-more : (vs rest : List ℕ) (o : Result Piece RunFault)
      → with_run vs (read_behind (behind r rest false) ys o) ≡ read_behind r ys (in_piece vs o)
  behind-more vs rest (Err fault) = refl
  behind-more vs rest (Ok piece) = by piece.is_done
    where
      number : r.line + 1 + length piece.runs ≡ r.line + suc (length piece.runs)
      number = omega arith

      at_done : (line : ℕ) (bytes : List ℕ) → with_run vs (done_before line piece.runs bytes) ≡ done_before line (vs ∷ piece.runs) bytes
      at_done line [] = refl
      at_done line (c ∷ cs) = refl

      by : (b : Bool) → with_run vs (cond b (done_before (r.line + 1 + length piece.runs + 1) piece.runs ys) (with_runs piece.runs (reading (behind_lines (behind r rest false) (length piece.runs) ys))))
          ≡ cond b (done_before (r.line + suc (length piece.runs) + 1) (vs ∷ piece.runs) ys) (with_run vs (with_runs piece.runs (reading (behind_lines r (suc (length piece.runs)) ys))))
      by true = at_done (r.line + 1 + length piece.runs + 1) ys ∙ ap (λ (n : ℕ). done_before (n + 1) (vs ∷ piece.runs) ys) number
      by false = ap (λ (n : ℕ). with_run vs (with_runs piece.runs (reading (record { left = ys; line = n; loads = r.loads; is_done = false })))) number

  -- `done` was read
  behind-done : (rest : List ℕ) (q : Reader) → q.line ≡ r.line → go_on reading (end_at r (rest ++ ys)) ≡ read_behind r ys (piece_on piece_read (end_at q rest))
  behind-done [] q same = at ys
    where
      at : (bytes : List ℕ) → go_on reading (end_at r bytes) ≡ done_before (r.line + 0 + 1) [] bytes
      at [] = refl
      at (c ∷ cs) = let n : r.line + 1 ≡ r.line + 0 + 1 = omega arith in ap (λ (m : ℕ). Err (AfterDone m)) n
  behind-done (c ∷ cs) q same = ap (λ (m : ℕ). Err (AfterDone (m + 1))) (sym same)

-- what is said of the lines behind the first
abbrev LinesLater : List (List ℕ) → List ℕ → Reader → Type 0
LinesLater lines ys r = reading (behind r (closed lines ++ ys) false) ≡ read_behind (behind r (closed lines ++ ys) false) ys (piece_read (reads_bytes (behind r (closed lines ++ ys) false) (closed lines)))

pub lines-then : (lines : List (List ℕ)) (ys : List ℕ) (r : Reader) → AllByRecursion IsLine lines → r.is_done ≡ false → r.left ≡ closed lines ++ ys
    → reading r ≡ read_behind r ys (piece_read (reads_bytes r (closed lines)))
lines-then [] ys r each not_done whole =
    let none : r.line ≡ r.line + 0 = omega arith in
    ap reading (ap (λ (b : Bool). record { left = r.left; line = r.line; loads = r.loads; is_done = b }) not_done
    ∙ ap (λ (xs : List ℕ). record { left = xs; line = r.line; loads = r.loads; is_done = false }) whole
    ∙ ap (λ (n : ℕ). record { left = ys; line = n; loads = r.loads; is_done = false }) none)
lines-then (line ∷ lines) ys r each not_done whole = by (lines-then lines ys (behind r (closed lines ++ ys) false) each.1 refl refl) (IsOn line) refl
  where
    here : StartsWithLine r.left line (closed lines ++ ys)
    here = record { no_feed = each.0; whole = whole ∙ append_assoc line (10 ∷ closed lines) ys }

    there : StartsWithLine (line ++ 10 ∷ closed lines) line (closed lines)
    there = record { no_feed = each.0; whole = refl }

    by_run : LinesLater lines ys r → IsOn line ≡ false → (o : Result (List ℕ) RunFault) → run_of r.line r.loads line ≡ o → reading r ≡ read_behind r ys (piece_read (reads_bytes r (line ++ 10 ∷ closed lines)))
    by_run later e (Err fault) is =
        reading-refused r fault (turn-read r not_done line (closed lines ++ ys) here e (Err fault) is)
        ∙ ap (read_behind r ys) (sym (piece-line (reads_bytes r (line ++ 10 ∷ closed lines)) line (closed lines) refl (Err fault) (turn-read (reads_bytes r (line ++ 10 ∷ closed lines)) refl line (closed lines) there e (Err fault) is)))
    by_run later e (Ok vs) is =
        reading-turn r
        ∙ ap (go_on reading) (turn-read r not_done line (closed lines ++ ys) here e (Ok vs) is)
        ∙ ap (with_run vs) later
        ∙ behind-more r ys vs (closed lines ++ ys) (piece_read (reads_bytes (behind r (closed lines ++ ys) false) (closed lines)))
        ∙ ap (read_behind r ys) (sym (piece-line (reads_bytes r (line ++ 10 ∷ closed lines)) line (closed lines) refl (run_at (reads_bytes r (line ++ 10 ∷ closed lines)) (closed lines) (Ok vs)) (turn-read (reads_bytes r (line ++ 10 ∷ closed lines)) refl line (closed lines) there e (Ok vs) is)))

    by : LinesLater lines ys r → (b : Bool) → IsOn line ≡ b → reading r ≡ read_behind r ys (piece_read (reads_bytes r (line ++ 10 ∷ closed lines)))
    by later true e =
        reading-turn r
        ∙ ap (go_on reading) (turn-end r not_done line (closed lines ++ ys) here e)
        ∙ behind-done r ys (closed lines) (reads_bytes r (line ++ 10 ∷ closed lines)) refl
        ∙ ap (read_behind r ys) (sym (piece-line (reads_bytes r (line ++ 10 ∷ closed lines)) line (closed lines) refl (end_at (reads_bytes r (line ++ 10 ∷ closed lines)) (closed lines)) (turn-end (reads_bytes r (line ++ 10 ∷ closed lines)) refl line (closed lines) there e)))
    by later false e = by_run later e (run_of r.line r.loads line) refl

-- Bytes that end in a line feed are lines, one at least.
pub feed-lines : (front : List ℕ) → (line : List ℕ) × (lines : List (List ℕ)) × IsLine line × AllByRecursion IsLine lines × (front ++ 10 ∷ [] ≡ line ++ 10 ∷ closed lines)
feed-lines [] = ([], [], tt, tt, refl)
feed-lines (c ∷ front) =
    let more = feed-lines front in
    ⊎_elim
    (λ (is : c ≡ 10). ([], more.0 ∷ more.1, tt, (more.2, more.3), ap (λ (n : ℕ). n ∷ (front ++ 10 ∷ [])) is ∙ ap (λ (xs : List ℕ). 10 ∷ xs) more.4))
    (λ (other : c ≢ 10). (c ∷ more.0, more.1, (other, more.2), more.3, ap (λ (xs : List ℕ). c ∷ xs) more.4))
    (is_feed (eqb c 10) refl)
  where
    is_feed : (b : Bool) → eqb c 10 ≡ b → (c ≡ 10) ⊎ (c ≢ 10)
    is_feed true e = inl (eqb-true c 10 e)
    is_feed false e = inr (eqb-false c 10 e)

-- What a text is read as, by its first piece, which ends in a line feed, and by what stands behind it.
pub piece-then : (bytes ys : List ℕ) (r : Reader) → EndsInFeed bytes → r.is_done ≡ false → r.left ≡ bytes ++ ys → reading r ≡ read_behind r ys (piece_read (reads_bytes r bytes))
piece-then bytes ys r ends not_done whole =
    let found = feed-lines ends.0 in
    let same : bytes ≡ closed (found.0 ∷ found.1) = ends.1 ∙ found.4 in
    lines-then (found.0 ∷ found.1) ys r (found.2, found.3) not_done (whole ∙ ap (λ (xs : List ℕ). xs ++ ys) same)
    ∙ ap (λ (xs : List ℕ). read_behind r ys (piece_read (reads_bytes r xs))) (sym same)

-- The last piece, however it ends.

as_bytes : (r : Reader) (bytes : List ℕ) → r.is_done ≡ false → r.left ≡ bytes → r ≡ reads_bytes r bytes
as_bytes r bytes not_done whole =
    ap (λ (b : Bool). record { left = r.left; line = r.line; loads = r.loads; is_done = b }) not_done
    ∙ ap (λ (xs : List ℕ). record { left = xs; line = r.line; loads = r.loads; is_done = false }) whole

last-none : (r : Reader) → r.is_done ≡ false → r.left ≡ [] → reading r ≡ read_behind r [] (piece_read r)
last-none r not_done e = lines-then [] [] r tt not_done e ∙ ap (λ (q : Reader). read_behind r [] (piece_read q)) (sym (as_bytes r [] not_done e))

-- what is said where fewer bytes are left
abbrev LastLater : Reader → Type 0
LastLater r = (after : Reader) → length after.left < length r.left → after.is_done ≡ false → reading after ≡ read_behind after [] (piece_read after)

last-by : (n : ℕ) (r : Reader) → length r.left ≤ n → r.is_done ≡ false → reading r ≡ read_behind r [] (piece_read r)
last-by zero r few not_done = last-none r not_done (no_bytes r.left few)
last-by (suc n) r few not_done = by_bytes (λ after shorter is. last-by n after (omega (arith, shorter, few)) is) r.left refl
  where
    by_more : LastLater r → (t : Turn) → turn r ≡ Ok t → piece_read r ≡ piece_on piece_read (Ok t) → (more : Bool) → t.more ≡ more → reading r ≡ read_behind r [] (piece_read r)
    by_more later t e p true is =
        let next = turn-run r t e is in
        let shorter = run-shorter r t next in
        reading-run r t e is
        ∙ ap (with_run t.values) (later t.reader shorter (ap (λ (q : Reader). q.is_done) next.reader))
        ∙ ap (λ (q : Reader). with_run t.values (read_behind q [] (piece_read t.reader))) next.reader
        ∙ behind-more r [] t.values t.reader.left (piece_read t.reader)
        ∙ ap (read_behind r []) (sym (p ∙ ap (λ (b : Bool). cond b (in_piece t.values (piece_read t.reader)) (Ok (record { runs = []; is_done = true }))) is))
    by_more later t e p false is =
        reading-done r t e is
        ∙ ap (read_behind r []) (sym (p ∙ ap (λ (b : Bool). cond b (in_piece t.values (piece_read t.reader)) (Ok (record { runs = []; is_done = true }))) is))

    by_turn : LastLater r → (o : Result Turn RunFault) → turn r ≡ o → piece_read r ≡ piece_on piece_read o → reading r ≡ read_behind r [] (piece_read r)
    by_turn later (Err fault) e p = reading-refused r fault e ∙ ap (read_behind r []) (sym p)
    by_turn later (Ok t) e p = by_more later t e p t.more refl

    by_bytes : LastLater r → (xs : List ℕ) → r.left ≡ xs → reading r ≡ read_behind r [] (piece_read r)
    by_bytes later [] e = last-none r not_done e
    by_bytes later (c ∷ cs) e = by_turn later (turn r) refl (piece-turn r ∙ ap (piece_at piece_read r) e)

pub last-piece : (r : Reader) → r.is_done ≡ false → reading r ≡ read_behind r [] (piece_read r)
last-piece r not_done = last-by (length r.left) r (omega arith) not_done

-- Line numbers move.

module _ (by : ℕ) where
  abbrev pub moved_reader : Reader → Reader
  moved_reader r = record { left = r.left; line = by + r.line; loads = r.loads; is_done = r.is_done }

  abbrev moved_turn : Result Turn RunFault → Result Turn RunFault
  moved_turn (Ok t) = Ok (record { more = t.more; values = t.values; reader = moved_reader t.reader })
  moved_turn (Err fault) = Err (moved by fault)

  behind-moved : (r : Reader) (rest : List ℕ) (b : Bool) → behind (moved_reader r) rest b ≡ moved_reader (behind r rest b)
  behind-moved r rest b = let n : by + r.line + 1 ≡ by + (r.line + 1) = omega arith in ap (λ (m : ℕ). record { left = rest; line = m; loads = r.loads; is_done = b }) n

  end-moved : (r : Reader) (rest : List ℕ) → end_at (moved_reader r) rest ≡ moved_turn (end_at r rest)
  end-moved r [] = ap (λ (q : Reader). Ok (record { more = false; values = []; reader = q })) (behind-moved r [] true)
  end-moved r (c ∷ cs) = let n : by + r.line + 1 ≡ by + (r.line + 1) = omega arith in ap (λ (m : ℕ). Err (AfterDone m)) n

  judged-moved : (line want : ℕ) (o : Option (List ℕ)) → judged (by + line) want o ≡ moved_read by (judged line want o)
  judged-moved line want None = refl
  judged-moved line want (Some vs) = at (eqb (length vs) want) (all_fit vs)
    where
      at : (same fit : Bool) → cond same (cond fit (Ok vs) (Err (ValueRange (by + line)))) (Err (WrongCount (by + line) want (length vs)))
          ≡ moved_read by (cond same (cond fit (Ok vs) (Err (ValueRange line))) (Err (WrongCount line want (length vs))))
      at true true = refl
      at true false = refl
      at false fit = refl

  run-moved : (r : Reader) (rest : List ℕ) (o : Result (List ℕ) RunFault) → run_at (moved_reader r) rest (moved_read by o) ≡ moved_turn (run_at r rest o)
  run-moved r rest (Ok vs) = ap (λ (q : Reader). Ok (record { more = true; values = vs; reader = q })) (behind-moved r rest false)
  run-moved r rest (Err fault) = refl

  line-moved : (r : Reader) (o : Option (List ℕ × List ℕ)) → line_at (moved_reader r) o ≡ moved_turn (line_at r o)
  line-moved r None = refl
  line-moved r (Some l) = at (IsOn l.0)
    where
      at : (b : Bool) → cond b (end_at (moved_reader r) l.1) (run_at (moved_reader r) l.1 (run_of (by + r.line) r.loads l.0)) ≡ moved_turn (cond b (end_at r l.1) (run_at r l.1 (run_of r.line r.loads l.0)))
      at true = end-moved r l.1
      at false = ap (run_at (moved_reader r) l.1) (judged-moved r.line r.loads (run_values l.0)) ∙ run-moved r l.1 (run_of r.line r.loads l.0)

  turn-moved : (r : Reader) → turn (moved_reader r) ≡ moved_turn (turn r)
  turn-moved r = at r.is_done
    where
      at : (b : Bool) → cond b (Ok (record { more = false; values = []; reader = moved_reader r })) (line_at (moved_reader r) (first_line r.left))
          ≡ moved_turn (cond b (Ok (record { more = false; values = []; reader = r })) (line_at r (first_line r.left)))
      at true = refl
      at false = line-moved r (first_line r.left)

  in_piece-moved : (vs : List ℕ) (o : Result Piece RunFault) → in_piece vs (moved_read by o) ≡ moved_read by (in_piece vs o)
  in_piece-moved vs (Ok piece) = refl
  in_piece-moved vs (Err fault) = refl

  abbrev MovedLater : ℕ → Type 0
  MovedLater n = (q : Reader) → piece_by n (moved_reader q) ≡ moved_read by (piece_by n q)

  piece_by-moved : (n : ℕ) (r : Reader) → piece_by n (moved_reader r) ≡ moved_read by (piece_by n r)
  piece_by-moved zero r = refl
  piece_by-moved (suc n) r = at (λ q. piece_by-moved n q) r.left
    where
      by_more : MovedLater n → (t : Turn) (more : Bool) → cond more (in_piece t.values (piece_by n (moved_reader t.reader))) (Ok (record { runs = []; is_done = true }))
          ≡ moved_read by (cond more (in_piece t.values (piece_by n t.reader)) (Ok (record { runs = []; is_done = true })))
      by_more later t true = ap (in_piece t.values) (later t.reader) ∙ in_piece-moved t.values (piece_by n t.reader)
      by_more later t false = refl

      by_turn : MovedLater n → (o : Result Turn RunFault) → piece_on (piece_by n) (moved_turn o) ≡ moved_read by (piece_on (piece_by n) o)
      by_turn later (Err fault) = refl
      by_turn later (Ok t) = by_more later t t.more

      at : MovedLater n → (xs : List ℕ) → piece_at (piece_by n) (moved_reader r) xs ≡ moved_read by (piece_at (piece_by n) r xs)
      at later [] = refl
      at later (c ∷ cs) = ap (piece_on (piece_by n)) (turn-moved r) ∙ by_turn later (turn r)

  pub piece-moved : (r : Reader) → piece_read (moved_reader r) ≡ moved_read by (piece_read r)
  piece-moved r = piece_by-moved (length r.left) r

-- All pieces.

by_itself : (r : Reader) (bytes : List ℕ) → piece_read (reads_bytes r bytes) ≡ moved_read r.line (piece_read (piece_reader r.loads bytes))
by_itself r bytes =
    let n : r.line ≡ r.line + 0 = omega arith in
    ap (λ (m : ℕ). piece_read (record { left = bytes; line = m; loads = r.loads; is_done = false })) n ∙ piece-moved r.line (piece_reader r.loads bytes)

reading-none : (r : Reader) → r.is_done ≡ false → r.left ≡ [] → reading r ≡ Err (NoDone r.line)
reading-none r not_done e = reading-refused r (NoDone r.line)
    (ap (λ (b : Bool). cond b (Ok (record { more = false; values = []; reader = r })) (line_at r (first_line r.left))) not_done ∙ ap (λ (xs : List ℕ). line_at r (first_line xs)) e)

some-first : (next : List ℕ) (others : List (List ℕ)) → AreCut (next ∷ others) → IsSome next
some-first next [] cut = cut
some-first next (other ∷ others) cut = at cut.0.0 cut.0.1
  where
    at : (front : List ℕ) → next ≡ front ++ 10 ∷ [] → IsSome next
    at [] e = subst IsSome (sym e) tt
    at (c ∷ cs) e = subst IsSome (sym e) tt

done-more : (line : ℕ) (runs : List (List ℕ)) (xs ys : List ℕ) → IsSome xs → done_before line runs (xs ++ ys) ≡ Err (AfterDone line)
done-more line runs [] ys h = absurd h
done-more line runs (c ∷ cs) ys h = refl

abbrev each_read : ℕ → List (List ℕ) → List (Result Piece RunFault)
each_read loads pieces = map (λ bytes. piece_read (piece_reader loads bytes)) pieces

abbrev PiecesLater : List (List ℕ) → Type 0
PiecesLater pieces = (q : Reader) → AreCut pieces → q.is_done ≡ false → q.left ≡ concat pieces → reading q ≡ joined (each_read q.loads pieces) q.line

pub pieces-read : (pieces : List (List ℕ)) (r : Reader) → AreCut pieces → r.is_done ≡ false → r.left ≡ concat pieces
    → reading r ≡ joined (each_read r.loads pieces) r.line
pieces-read [] r cut not_done whole = reading-none r not_done whole
pieces-read (piece ∷ []) r cut not_done whole =
    let all : r.left ≡ piece = whole ∙ append-nil piece in
    last-piece r not_done
    ∙ ap (λ (q : Reader). read_behind r [] (piece_read q)) (as_bytes r piece not_done all)
    ∙ ap (read_behind r []) (by_itself r piece)
    ∙ at (piece_read (piece_reader r.loads piece))
  where
    by_done : (p : Piece) (b : Bool) → cond b (Ok p.runs) (with_runs p.runs (reading (behind_lines r (length p.runs) []))) ≡ cond b (Ok p.runs) (with_runs p.runs (Err (NoDone (r.line + length p.runs))))
    by_done p true = refl
    by_done p false = ap (with_runs p.runs) (reading-none (behind_lines r (length p.runs) []) refl refl)

    at : (o : Result Piece RunFault) → read_behind r [] (moved_read r.line o) ≡ joined (o ∷ []) r.line
    at (Err fault) = refl
    at (Ok p) = by_done p p.is_done
pieces-read (piece ∷ next ∷ others) r cut not_done whole =
    piece-then piece (concat (next ∷ others)) r cut.0 not_done whole
    ∙ ap (read_behind r (concat (next ∷ others))) (by_itself r piece)
    ∙ at (λ q cut_more is whole_is. pieces-read (next ∷ others) q cut_more is whole_is) (piece_read (piece_reader r.loads piece))
  where
    by_done : PiecesLater (next ∷ others) → (p : Piece) (b : Bool) → cond b (done_before (r.line + length p.runs + 1) p.runs (concat (next ∷ others))) (with_runs p.runs (reading (behind_lines r (length p.runs) (concat (next ∷ others)))))
        ≡ cond b (Err (AfterDone (r.line + length p.runs + 1))) (with_runs p.runs (joined (each_read r.loads (next ∷ others)) (r.line + length p.runs)))
    by_done later p true = done-more (r.line + length p.runs + 1) p.runs next (concat others) (some-first next others cut.1)
    by_done later p false = ap (with_runs p.runs) (later (behind_lines r (length p.runs) (concat (next ∷ others))) cut.1 refl refl)

    at : PiecesLater (next ∷ others) → (o : Result Piece RunFault) → read_behind r (concat (next ∷ others)) (moved_read r.line o) ≡ joined (o ∷ (each_read r.loads (next ∷ others))) r.line
    at later (Err fault) = refl
    at later (Ok p) = by_done later p p.is_done
