-- What a call gives by the functions is what it means by the forms of lines.
use Rattle.std.proofs.Common.{◌≡◌, ◌≢◌, ℕ, List, [], ◌∷◌, ◌++◌, Bool, true, false, refl, ap, arith, ◌∙◌, sym, subst, cond, Option, Some, None, Result, Ok, Err, inl, inr, ⊎_elim, length, eqb}
use Rattle.std.specs.Prelude.{codes}
use Rattle.std.specs.Str.{bytes_eq}
use Rattle.std.proofs.lemmas.Bool.{eq-eqb, ne_eqb, eqb-true, eqb-false}
use Rattle.std.proofs.lemmas.List.{length-map}
use Rattle.std.proofs.lemmas.Slice.Eq.{bytes_eq-Decides}
use Rattle.test_lang.specs.Text.Line.{IsLine, StartsWithLine, first_line}
use Rattle.test_lang.proofs.TextLemmas.Lines.{first_line-starts, first_line-none_is, first_line-of, first_line-of_none}
use Rattle.run_text.specs.declared.fault.RunFault.{RunFault}
use Rattle.run_text.specs.declared.fault.RunFault.TheVariants.{BadRunLine, WrongCount, ValueRange, NoDone, AfterDone, Memory}
use Rattle.run_text.specs.Parts.{all_fit}
use Rattle.run_text.specs.RunLine.{run_values, judged, run_of}
use Rattle.run_text.specs.Reader.{Reader, Turn, behind, end_at, run_at, line_at, turn}
use Rattle.run_text.specs.Grammar.{AreNumerals, values_of, run_line, StartsWithRun, IsNoRunLine, ReadsRun, ReadsDone, CallMeans}
use Rattle.run_text.proofs.Judging.{judged-by}
use Rattle.run_text.proofs.RunForms.{run_values-spelled, run_values-spelling, IsLine-run_line, all_fit-true, all_fit-false, all_fit-of, all_fit-of_large}

pub not_done : (line : List ℕ) → bytes_eq line (codes "done") ≡ false → line ≢ codes "done"
not_done line e same = let h = (bytes_eq-Decides line (codes "done")).1 same in cc

pub is_other_text : (line text : List ℕ) → line ≢ text → bytes_eq line text ≡ false
is_other_text line text other = go (bytes_eq line text) refl
  where
    go : (b : Bool) → bytes_eq line text ≡ b → b ≡ false
    go true e = absurd (other ((bytes_eq-Decides line text).0 e))
    go false e = refl

pub is_not_done : (line : List ℕ) → line ≢ codes "done" → bytes_eq line (codes "done") ≡ false
is_not_done line other = is_other_text line (codes "done") other

pub IsLine-done : IsLine (codes "done")
IsLine-done = (λ same. absurd (omega arith), (λ same. absurd (omega arith), (λ same. absurd (omega arith), (λ same. absurd (omega arith), tt))))

-- From the functions to the forms.
module _ (r : Reader) where
  end_means : (rest : List ℕ) → r.left ≡ codes "done" ++ 10 ∷ rest → CallMeans r (end_at r rest)
  end_means [] e = inl (record { line = e; turn = refl })
  end_means (c ∷ rest) e = (refl, c, rest, e)

  module _ (line rest : List ℕ) (starts : StartsWithLine r.left line rest) (other : line ≢ codes "done") where
    module _ (vs : List ℕ) (ns : List (List ℕ)) (numerals : AreNumerals ns) (spelled : line ≡ run_line ns) (values : vs ≡ values_of ns) where
      starts_run : StartsWithRun r.left ns rest
      starts_run = record { numerals = numerals; whole = starts.whole ∙ ap (λ (ys : List ℕ). ys ++ 10 ∷ rest) spelled }

      as_many : length vs ≡ length ns
      as_many = ap length values ∙ simp length-map

      fit_means : (fit : Bool) → all_fit vs ≡ fit → length vs ≡ r.loads → CallMeans r (run_at r rest (cond fit (Ok vs) (Err (ValueRange r.line))))
      fit_means true e same = inr (
        ns,
        rest,
        record {
          line = starts_run;
          count = sym as_many ∙ same;
          fit = all_fit-true ns (sym (ap all_fit values) ∙ e);
          turn = ap (λ (ys : List ℕ). record { more = true; values = ys; reader = behind r rest false }) values;
        },
      )
      fit_means false e same = (refl, ns, rest, starts_run, sym as_many ∙ same, all_fit-false ns (sym (ap all_fit values) ∙ e))

      count_means : (same : Bool) → eqb (length vs) r.loads ≡ same
          → CallMeans r (run_at r rest (cond same (cond (all_fit vs) (Ok vs) (Err (ValueRange r.line))) (Err (WrongCount r.line r.loads (length vs)))))
      count_means true e = fit_means (all_fit vs) refl (eqb-true (length vs) r.loads e)
      count_means false e = let apart = eqb-false (length vs) r.loads e in (refl, refl, ns, rest, starts_run, as_many, λ same. apart (as_many ∙ same))

    run_means : (read : Option (List ℕ)) → run_values line ≡ read → CallMeans r (run_at r rest (judged r.line r.loads read))
    run_means None e = (refl, line, rest, record { starts = starts; not_done = other; not_run = λ ns numerals spelled. let h = sym e ∙ ap run_values spelled ∙ run_values-spelling ns numerals in absurd cc })
    run_means (Some vs) e = let s = run_values-spelled line vs e in count_means vs s.0 s.1 s.2 s.3 (eqb (length vs) r.loads) refl

  line_means : (line rest : List ℕ) → StartsWithLine r.left line rest → (done : Bool) → bytes_eq line (codes "done") ≡ done
      → CallMeans r (cond done (end_at r rest) (run_at r rest (run_of r.line r.loads line)))
  line_means line rest starts true e = end_means rest (starts.whole ∙ ap (λ (ys : List ℕ). ys ++ 10 ∷ rest) ((bytes_eq-Decides line (codes "done")).0 e))
  line_means line rest starts false e = run_means line rest starts (not_done line e) (run_values line) refl

  text_means : (found : Option (List ℕ × List ℕ)) → first_line r.left ≡ found → CallMeans r (line_at r found)
  text_means None e = (refl, first_line-none_is r.left e)
  text_means (Some l) e = line_means l.0 l.1 (first_line-starts r.left l e) (bytes_eq l.0 (codes "done")) refl

  pub not_ended : r.is_done ≡ false → turn r ≡ line_at r (first_line r.left)
  not_ended e = ap (λ (b : Bool). cond b (Ok (record { more = false; values = []; reader = r })) (line_at r (first_line r.left))) e

  pub turn_means : r.is_done ≡ false → CallMeans r (turn r)
  turn_means e = subst (CallMeans r) (sym (not_ended e)) (text_means (first_line r.left) refl)

-- From the forms to the functions.
module _ (r : Reader) where
  closed_by : (line rest : List ℕ) → IsLine line → r.left ≡ line ++ 10 ∷ rest → line_at r (first_line r.left) ≡ line_at r (Some (line, rest))
  closed_by line rest h e = ap (line_at r) (first_line-of r.left line rest (record { no_feed = h; whole = e }))

  run_turn : (ns : List (List ℕ)) (rest : List ℕ) → StartsWithRun r.left ns rest → (same fit : Bool) → eqb (length ns) r.loads ≡ same → all_fit (values_of ns) ≡ fit
      → line_at r (first_line r.left) ≡ run_at r rest (cond same (cond fit (Ok (values_of ns)) (Err (ValueRange r.line))) (Err (WrongCount r.line r.loads (length ns))))
  run_turn ns rest h same fit e f =
      let many : length (values_of ns) ≡ length ns = simp length-map in
      closed_by (run_line ns) rest (IsLine-run_line ns h.numerals) h.whole
      ∙ ap (λ (o : Option (List ℕ)). run_at r rest (judged r.line r.loads o)) (run_values-spelling ns h.numerals)
      ∙ ap (run_at r rest) (judged-by r.line r.loads (values_of ns) same fit (ap (λ (n : ℕ). eqb n r.loads) many ∙ e) f)
      ∙ ap (λ (n : ℕ). run_at r rest (cond same (cond fit (Ok (values_of ns)) (Err (ValueRange r.line))) (Err (WrongCount r.line r.loads n)))) many

  no_run : (line : List ℕ) → IsNoRunLine line → run_values line ≡ None
  no_run line h = go (run_values line) refl
    where
      go : (o : Option (List ℕ)) → run_values line ≡ o → o ≡ None
      go None e = refl
      go (Some vs) e = let s = run_values-spelled line vs e in absurd (h s.0 s.1 s.2)

  means_text : (o : Result Turn RunFault) → CallMeans r o → line_at r (first_line r.left) ≡ o
  means_text (Ok t) h = ⊎_elim
      (λ (is : ReadsDone r t). closed_by (codes "done") [] IsLine-done is.line ∙ ap Ok (sym is.turn))
      (λ (is : (ns : List (List ℕ)) × (rest : List ℕ) × ReadsRun r t ns rest).
      run_turn is.0 is.1 is.2.line true true (eq-eqb (length is.0) r.loads is.2.count) (all_fit-of is.0 is.2.fit) ∙ ap Ok (sym is.2.turn))
      h
  means_text (Err (NoDone line)) h = ap (line_at r) (first_line-of_none r.left h.1) ∙ ap (λ (n : ℕ). Err (NoDone n)) (sym h.0)
  means_text (Err (BadRunLine line)) h =
      let bad = h.3 in
      closed_by h.1 h.2 bad.starts.no_feed bad.starts.whole
      ∙ ap (λ (b : Bool). cond b (end_at r h.2) (run_at r h.2 (run_of r.line r.loads h.1))) (is_not_done h.1 bad.not_done)
      ∙ ap (λ (o : Option (List ℕ)). run_at r h.2 (judged r.line r.loads o)) (no_run h.1 bad.not_run)
      ∙ ap (λ (n : ℕ). Err (BadRunLine n)) (sym h.0)
  means_text (Err (WrongCount line want got)) h =
      run_turn h.2 h.3 h.4 false (all_fit (values_of h.2)) (ne_eqb (length h.2) r.loads h.6) refl
      ∙ ap (λ (n : ℕ). Err (WrongCount n r.loads (length h.2))) (sym h.0)
      ∙ ap (λ (n : ℕ). Err (WrongCount line n (length h.2))) (sym h.1)
      ∙ ap (λ (n : ℕ). Err (WrongCount line want n)) (sym h.5)
  means_text (Err (ValueRange line)) h =
      run_turn h.1 h.2 h.3 true false (eq-eqb (length h.1) r.loads h.4) (all_fit-of_large h.1 h.5) ∙ ap (λ (n : ℕ). Err (ValueRange n)) (sym h.0)
  means_text (Err (AfterDone line)) h = closed_by (codes "done") (h.1 ∷ h.2) IsLine-done h.3 ∙ ap (λ (n : ℕ). Err (AfterDone n)) (sym h.0)
  means_text (Err Memory) h = absurd h

  pub means_turn : (o : Result Turn RunFault) → r.is_done ≡ false → CallMeans r o → turn r ≡ o
  means_turn o e h = not_ended r e ∙ means_text o h
