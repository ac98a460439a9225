-- What reading all lines gives is what the text means.
use Rattle.std.proofs.Common.{◌≡◌, ◌↔◌, ℕ, zero, suc, ◌+◌, ◌<◌, List, [], ◌∷◌, ◌++◌, Bool, true, false, refl, ap, arith, ◌∙◌, sym, subst, cond, map, Result, Ok, Err, length, append_assoc}
use Rattle.std.specs.Prelude.{codes}
use Rattle.std.proofs.lemmas.List.{append-nil}
use Rattle.test_lang.specs.Text.Line.{closed}
use Rattle.run_text.specs.declared.fault.RunFault.{RunFault}
use Rattle.run_text.specs.Reader.{Reader, Turn, behind, turn}
use Rattle.run_text.specs.Grammar.{CallMeans}
use Rattle.run_text.specs.Runs.{AreRunsOf, line_of_run, runs_text, with_run, with_runs, go_on, reading_by, reading, IsLineOfRun, RunsMean}
use Rattle.run_text.specs.Items.{AreLinesOf, IsTextOf}
use Rattle.run_text.specs.Pieces.{behind_lines}
use Rattle.run_text.proofs.Meaning.{turn_means, means_turn}
use Rattle.run_text.proofs.Turns.{IsRunNext, turn-run, turn-done, run-shorter, run-turn, done-turn}

-- One run more at the end is one run more in front of what is read.
pub with_runs-push : (runs : List (List ℕ)) (run : List ℕ) (read : Result (List (List ℕ)) RunFault) → with_runs (runs ++ run ∷ []) read ≡ with_runs runs (with_run run read)
with_runs-push [] run read = refl
with_runs-push (first ∷ runs) run read = ap (with_run first) (with_runs-push runs run read)

-- Reading on in two ways that agree where fewer bytes are left.
go_on-same : (r : Reader) (f g : Reader → Result (List (List ℕ)) RunFault) → ((after : Reader) → length after.left < length r.left → f after ≡ g after)
    → go_on f (turn r) ≡ go_on g (turn r)
go_on-same r f g same = by_turn (turn r) refl
  where
    by_more : (t : Turn) → turn r ≡ Ok t → (more : Bool) → t.more ≡ more → cond more (with_run t.values (f t.reader)) (Ok []) ≡ cond more (with_run t.values (g t.reader)) (Ok [])
    by_more t e true is = ap (with_run t.values) (same t.reader (run-shorter r t (turn-run r t e is)))
    by_more t e false is = refl

    by_turn : (o : Result Turn RunFault) → turn r ≡ o → go_on f o ≡ go_on g o
    by_turn (Err fault) e = refl
    by_turn (Ok t) e = by_more t e t.more refl

reading_by-enough : (n m : ℕ) (r : Reader) → length r.left < n → length r.left < m → reading_by n r ≡ reading_by m r
reading_by-enough zero m r a b = absurd (omega arith)
reading_by-enough (suc n) zero r a b = absurd (omega arith)
reading_by-enough (suc n) (suc m) r a b = go_on-same r (reading_by n) (reading_by m) (λ after shorter. reading_by-enough n m after (omega (arith, shorter, a)) (omega (arith, shorter, b)))

pub reading-turn : (r : Reader) → reading r ≡ go_on reading (turn r)
reading-turn r = go_on-same r (reading_by (length r.left)) reading (λ after shorter. reading_by-enough (length r.left) (suc (length after.left)) after shorter (omega arith))

-- What a call gives, for reading all.
module _ (r : Reader) where
  pub reading-run : (t : Turn) → turn r ≡ Ok t → t.more ≡ true → reading r ≡ with_run t.values (reading t.reader)
  reading-run t e more = reading-turn r ∙ ap (go_on reading) e ∙ ap (λ (b : Bool). cond b (with_run t.values (reading t.reader)) (Ok [])) more

  pub reading-done : (t : Turn) → turn r ≡ Ok t → t.more ≡ false → reading r ≡ Ok []
  reading-done t e done = reading-turn r ∙ ap (go_on reading) e ∙ ap (λ (b : Bool). cond b (with_run t.values (reading t.reader)) (Ok [])) done

  pub reading-refused : (fault : RunFault) → turn r ≡ Err fault → reading r ≡ Err fault
  reading-refused fault e = reading-turn r ∙ ap (go_on reading) e

-- Runs and their lines.

lines_of_runs : (loads : ℕ) (runs lines : List (List ℕ)) → AreLinesOf (IsLineOfRun loads) runs lines → AreRunsOf loads runs × (lines ≡ map line_of_run runs)
lines_of_runs loads [] [] h = (tt, refl)
lines_of_runs loads [] (line ∷ lines) h = absurd h
lines_of_runs loads (run ∷ runs) [] h = absurd h
lines_of_runs loads (run ∷ runs) (line ∷ lines) h =
    let more = lines_of_runs loads runs lines h.1 in
    ((h.0.is_run, more.0), ap (λ (l : List ℕ). l ∷ lines) h.0.text ∙ ap (λ (ls : List (List ℕ)). line_of_run run ∷ ls) more.1)

runs_in_lines : (loads : ℕ) (runs : List (List ℕ)) → AreRunsOf loads runs → AreLinesOf (IsLineOfRun loads) runs (map line_of_run runs)
runs_in_lines loads [] h = tt
runs_in_lines loads (run ∷ runs) h = (record { is_run = h.0; text = refl }, runs_in_lines loads runs h.1)

pub text_is_runs : (loads : ℕ) (runs : List (List ℕ)) (text rest : List ℕ) → IsTextOf (IsLineOfRun loads) runs text rest ↔ (AreRunsOf loads runs × (text ≡ runs_text runs ++ rest))
text_is_runs loads runs text rest = (
  λ h. let lines = lines_of_runs loads runs h.lines h.each in (lines.0, h.whole ∙ ap (λ (ls : List (List ℕ)). closed (ls ++ codes "done" ∷ []) ++ rest) lines.1),
  λ h. record { lines = map line_of_run runs; each = runs_in_lines loads runs h.0; whole = h.1 },
)

-- From reading to meaning.

at_start : (r : Reader) → r.is_done ≡ false → r ≡ behind_lines r 0 r.left
at_start r not_done =
    let none : r.line ≡ r.line + 0 = omega arith in
    ap (λ (b : Bool). record { left = r.left; line = r.line; loads = r.loads; is_done = b }) not_done
    ∙ ap (λ (n : ℕ). record { left = r.left; line = n; loads = r.loads; is_done = false }) none

module _ (r : Reader) (t : Turn) (next : IsRunNext r t) where
  same_loads : t.reader.loads ≡ r.loads
  same_loads = ap (λ (after : Reader). after.loads) next.reader

  next_line : t.reader.line ≡ r.line + 1
  next_line = ap (λ (after : Reader). after.line) next.reader

  run_means : (read : Result (List (List ℕ)) RunFault) → RunsMean t.reader read → RunsMean r (with_run t.values read)
  run_means (Ok runs) h = ((next.run, subst (λ (n : ℕ). AreRunsOf n runs) same_loads h.0), next.whole ∙ ap (λ (ys : List ℕ). line_of_run t.values ++ 10 ∷ ys) h.1)
  run_means (Err fault) h =
      let number : t.reader.line + length h.items ≡ r.line + suc (length h.items) = omega (arith, next_line) in
      let same : behind_lines t.reader (length h.items) h.bytes ≡ behind_lines r (suc (length h.items)) h.bytes =
      ap (λ (n : ℕ). record { left = h.bytes; line = n; loads = t.reader.loads; is_done = false }) number
      ∙ ap (λ (n : ℕ). record { left = h.bytes; line = r.line + suc (length h.items); loads = n; is_done = false }) same_loads in
      record {
        items = t.values ∷ h.items;
        lines = line_of_run t.values ∷ h.lines;
        bytes = h.bytes;
        each = (record { is_run = next.run; text = refl }, subst (λ (n : ℕ). AreLinesOf (IsLineOfRun n) h.items h.lines) same_loads h.each);
        whole = next.whole ∙ ap (λ (ys : List ℕ). line_of_run t.values ++ 10 ∷ ys) h.whole ∙ sym (append_assoc (line_of_run t.values) (10 ∷ closed h.lines) h.bytes);
        bad = subst (λ (q : Reader). CallMeans q (Err fault)) same h.bad;
      }

text_means : (r : Reader) → r.is_done ≡ false → ((after : Reader) → length after.left < length r.left → after.is_done ≡ false → RunsMean after (reading after)) → RunsMean r (reading r)
text_means r not_done later = subst (RunsMean r) (sym (reading-turn r)) (by_turn (turn r) refl)
  where
    by_more : (t : Turn) → turn r ≡ Ok t → (more : Bool) → t.more ≡ more → RunsMean r (cond more (with_run t.values (reading t.reader)) (Ok []))
    by_more t e true is =
        let next = turn-run r t e is in
        run_means r t next (reading t.reader) (later t.reader (run-shorter r t next) (ap (λ (after : Reader). after.is_done) next.reader))
    by_more t e false is = (tt, turn-done r t e is not_done)

    by_turn : (o : Result Turn RunFault) → turn r ≡ o → RunsMean r (go_on reading o)
    by_turn (Err fault) e = record {
      items = [];
      lines = [];
      bytes = r.left;
      each = tt;
      whole = refl;
      bad = subst (λ (q : Reader). CallMeans q (Err fault)) (at_start r not_done) (subst (CallMeans r) e (turn_means r not_done));
    }
    by_turn (Ok t) e = by_more t e t.more refl

reading-means : (n : ℕ) (r : Reader) → length r.left < n → r.is_done ≡ false → RunsMean r (reading r)
reading-means zero r lt not_done = absurd (omega arith)
reading-means (suc n) r lt not_done = text_means r not_done (λ after shorter is. reading-means n after (omega (arith, shorter, lt)) is)

-- From meaning to reading.

whole-read : (runs : List (List ℕ)) (r : Reader) → r.is_done ≡ false → AreRunsOf r.loads runs → r.left ≡ runs_text runs → reading r ≡ Ok runs
whole-read [] r not_done h whole = reading-turn r ∙ ap (go_on reading) (done-turn r not_done whole)
whole-read (run ∷ runs) r not_done h whole =
    reading-turn r ∙ ap (go_on reading) (run-turn r run (runs_text runs) not_done h.0 whole)
    ∙ ap (with_run run) (whole-read runs (behind r (runs_text runs) false) refl h.1 refl)

refused-read : (runs : List (List ℕ)) (r : Reader) (bytes : List ℕ) (fault : RunFault) → r.is_done ≡ false → AreRunsOf r.loads runs → r.left ≡ closed (map line_of_run runs) ++ bytes
    → CallMeans (behind_lines r (length runs) bytes) (Err fault) → reading r ≡ Err fault
refused-read [] r bytes fault not_done h whole bad =
    let here : behind_lines r 0 bytes ≡ r = ap (λ (ys : List ℕ). behind_lines r 0 ys) (sym whole) ∙ sym (at_start r not_done) in
    reading-refused r fault (means_turn r (Err fault) not_done (subst (λ (q : Reader). CallMeans q (Err fault)) here bad))
refused-read (run ∷ runs) r bytes fault not_done h whole bad =
    let rest = closed (map line_of_run runs) ++ bytes in
    let number : r.line + suc (length runs) ≡ r.line + 1 + length runs = omega arith in
    let same : behind_lines r (suc (length runs)) bytes ≡ behind_lines (behind r rest false) (length runs) bytes =
    ap (λ (n : ℕ). record { left = bytes; line = n; loads = r.loads; is_done = false }) number in
    reading-turn r ∙ ap (go_on reading) (run-turn r run rest not_done h.0 (whole ∙ append_assoc (line_of_run run) (10 ∷ closed (map line_of_run runs)) bytes))
    ∙ ap (with_run run) (refused-read runs (behind r rest false) bytes fault refl h.1 refl (subst (λ (q : Reader). CallMeans q (Err fault)) same bad))

mean-reading : (r : Reader) (meant : Result (List (List ℕ)) RunFault) → r.is_done ≡ false → RunsMean r meant → reading r ≡ meant
mean-reading r (Ok runs) not_done h = whole-read runs r not_done h.0 h.1
mean-reading r (Err fault) not_done h =
    let lines = lines_of_runs r.loads h.items h.lines h.each in
    refused-read h.items r h.bytes fault not_done lines.0 (h.whole ∙ ap (λ (ls : List (List ℕ)). closed ls ++ h.bytes) lines.1) h.bad

pub reading_is_meaning : (r : Reader) (meant : Result (List (List ℕ)) RunFault) → r.is_done ≡ false → (reading r ≡ meant) ↔ RunsMean r meant
reading_is_meaning r meant not_done = (
  λ (e : reading r ≡ meant). subst (RunsMean r) e (reading-means (suc (length r.left)) r (omega arith) not_done),
  λ (h : RunsMean r meant). mean-reading r meant not_done h,
)

pub reading_is_text : (r : Reader) (runs : List (List ℕ)) → r.is_done ≡ false → (reading r ≡ Ok runs) ↔ IsTextOf (IsLineOfRun r.loads) runs r.left []
reading_is_text r runs not_done =
    let means = reading_is_meaning r (Ok runs) not_done in
    let text = text_is_runs r.loads runs r.left [] in
    let nothing = append-nil (runs_text runs) in (
      λ e. let h = means.0 e in text.1 (h.0, h.1 ∙ sym nothing),
      λ h. let is = text.0 h in means.1 (is.0, is.1 ∙ nothing),
    )
