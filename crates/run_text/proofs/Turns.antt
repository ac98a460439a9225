-- Calls by the runs that they read.
use Rattle.std.proofs.Common.{◌≡◌, ℕ, ◌^◌, ◌<◌, List, [], ◌∷◌, ◌++◌, Bool, true, false, refl, ap, arith, ◌∙◌, sym, subst, map, Ok, inl, inr, ⊎_elim, length, length-append}
use Rattle.std.specs.Prelude.{codes}
use Rattle.std.specs.Fmt.{decimal}
use Rattle.std.specs.List.{All, flat_map}
use Rattle.std.proofs.lemmas.List.{length-map}
use Rattle.std.proofs.lemmas.List.Elements.{All-nil, All-cons, All-head, All-tail}
use Rattle.test_lang.specs.Runs.{IsRunOf}
use Rattle.test_lang.specs.Text.Numeral.{value, IsNumeralOf, part}
use Rattle.test_lang.proofs.TextLemmas.Numerals.{numeral-is_decimal, decimal-numeral}
use Rattle.run_text.specs.Reader.{Reader, Turn, behind, turn}
use Rattle.run_text.specs.Grammar.{AreNumerals, values_of, AllFit, ReadsRun, ReadsDone, CallMeans}
use Rattle.run_text.specs.Runs.{line_of_run}
use Rattle.run_text.proofs.Meaning.{turn_means, means_turn}
use Rattle.run_text.proofs.Ended.{turn_ended}

-- The numerals of a run line with small values are the decimal texts of the values.

parts-decimal : (ns : List (List ℕ)) → AreNumerals ns → AllFit ns → flat_map part ns ≡ flat_map (λ v. part (decimal v)) (values_of ns)
parts-decimal [] h fit = refl
parts-decimal (n ∷ ns) h fit =
    let is : n ≡ decimal (value n) = numeral-is_decimal n (value n) (record { numeral = h.0; number = refl }) (omega (arith, fit.0)) in
    ap (λ (ys : List ℕ). part ys ++ flat_map part ns) is ∙ ap (λ (ys : List ℕ). part (decimal (value n)) ++ ys) (parts-decimal ns h.1 fit.1)

abbrev IsSmall : ℕ → Type 0
IsSmall v = v < 2 ^ 32

values-small : (ns : List (List ℕ)) → AllFit ns → All IsSmall (values_of ns)
values-small [] fit = All-nil IsSmall
values-small (n ∷ ns) fit = All-cons IsSmall (value n) (values_of ns) fit.0 (values-small ns fit.1)

module _ (v : ℕ) (vs : List ℕ) (h : All IsSmall (v ∷ vs)) where
  decimal-first : IsNumeralOf v (decimal v)
  decimal-first = let small : v < 2 ^ 32 = All-head IsSmall v vs h in decimal-numeral v (omega (arith, small))

  small-first : value (decimal v) < 2 ^ 32
  small-first = let small : v < 2 ^ 32 = All-head IsSmall v vs h in omega (arith, small, decimal-first.number)

  small-rest : All IsSmall vs
  small-rest = All-tail IsSmall v vs h

decimals-numerals : (run : List ℕ) → All IsSmall run → AreNumerals (map decimal run)
decimals-numerals [] h = tt
decimals-numerals (v ∷ vs) h = let is = decimal-first v vs h in (is.numeral, decimals-numerals vs (small-rest v vs h))

decimals-values : (run : List ℕ) → All IsSmall run → values_of (map decimal run) ≡ run
decimals-values [] h = refl
decimals-values (v ∷ vs) h =
    let is = decimal-first v vs h in
    ap (λ (n : ℕ). n ∷ values_of (map decimal vs)) is.number ∙ ap (λ (ys : List ℕ). v ∷ ys) (decimals-values vs (small-rest v vs h))

decimals-fit : (run : List ℕ) → All IsSmall run → AllFit (map decimal run)
decimals-fit [] h = tt
decimals-fit (v ∷ vs) h = (small-first v vs h, decimals-fit vs (small-rest v vs h))

decimals-parts : (run : List ℕ) → flat_map part (map decimal run) ≡ flat_map (λ v. part (decimal v)) run
decimals-parts [] = refl
decimals-parts (v ∷ vs) = ap (λ (ys : List ℕ). part (decimal v) ++ ys) (decimals-parts vs)

-- The next line is that of a run with as many values as there are loads.
pub record IsRunNext (r : Reader) (t : Turn) : Type 0 where
  pub not_done : r.is_done ≡ false
  pub run : IsRunOf r.loads t.values
  pub whole : r.left ≡ line_of_run t.values ++ 10 ∷ t.reader.left
  pub reader : t.reader ≡ behind r t.reader.left false

run-next : (r : Reader) (t : Turn) → r.is_done ≡ false → ((ns : List (List ℕ)) × (rest : List ℕ) × ReadsRun r t ns rest) → IsRunNext r t
run-next r t not_done (ns, rest, h) =
    let many : length (values_of ns) ≡ length ns = simp length-map in
    subst (IsRunNext r) (sym h.turn) (record {
      not_done = not_done;
      run = record { whole = many ∙ h.count; values = values-small ns h.fit };
      whole = h.line.whole ∙ ap (λ (ys : List ℕ). (codes "run" ++ ys) ++ 10 ∷ rest) (parts-decimal ns h.line.numerals h.fit);
      reader = refl;
    })

done-more : (r : Reader) (t : Turn) → ReadsDone r t → t.more ≡ false
done-more r t h = ap (λ (u : Turn). u.more) h.turn

run-more : (r : Reader) (t : Turn) (ns : List (List ℕ)) (rest : List ℕ) → ReadsRun r t ns rest → t.more ≡ true
run-more r t ns rest h = ap (λ (u : Turn). u.more) h.turn

module _ (r : Reader) (t : Turn) (e : turn r ≡ Ok t) where
  turn-ended_more : r.is_done ≡ true → t.more ≡ false
  turn-ended_more done = let h = sym e ∙ turn_ended r done in let same : t ≡ record { more = false; values = []; reader = r } = cc in ap (λ (u : Turn). u.more) same

  turn-means : r.is_done ≡ false → CallMeans r (Ok t)
  turn-means not_done = subst (CallMeans r) e (turn_means r not_done)

  pub turn-run : t.more ≡ true → IsRunNext r t
  turn-run more = go r.is_done refl
    where
      go : (b : Bool) → r.is_done ≡ b → IsRunNext r t
      go true is = let ended = turn-ended_more is in absurd cc
      go false is = ⊎_elim
          (λ (h : ReadsDone r t). let ended = done-more r t h in absurd cc)
          (λ (h : (ns : List (List ℕ)) × (rest : List ℕ) × ReadsRun r t ns rest). run-next r t is h)
          (turn-means is)

  pub turn-done : t.more ≡ false → r.is_done ≡ false → r.left ≡ codes "done" ++ 10 ∷ []
  turn-done ended is = ⊎_elim
      (λ (h : ReadsDone r t). h.line)
      (λ (h : (ns : List (List ℕ)) × (rest : List ℕ) × ReadsRun r t ns rest). let more = run-more r t (h.0) (h.1) (h.2) in absurd cc)
      (turn-means is)

pub run-shorter : (r : Reader) (t : Turn) → IsRunNext r t → length t.reader.left < length r.left
run-shorter r t h = let long = ap length h.whole ∙ length-append (line_of_run t.values) (10 ∷ t.reader.left) in omega (arith, long)

-- The other way: a line that stands next is read.
pub run-turn : (r : Reader) (run rest : List ℕ) → r.is_done ≡ false → IsRunOf r.loads run → r.left ≡ line_of_run run ++ 10 ∷ rest
    → turn r ≡ Ok (record { more = true; values = run; reader = behind r rest false })
run-turn r run rest not_done h whole =
    let ns = map decimal run in
    let many : length (map decimal run) ≡ length run = simp length-map in
    means_turn r (Ok (record { more = true; values = run; reader = behind r rest false })) not_done (inr (
      ns,
      rest,
      record {
        line = record {
          numerals = decimals-numerals run h.values;
          whole = whole ∙ ap (λ (ys : List ℕ). (codes "run" ++ ys) ++ 10 ∷ rest) (sym (decimals-parts run));
        };
        count = many ∙ h.whole;
        fit = decimals-fit run h.values;
        turn = ap (λ (ys : List ℕ). record { more = true; values = ys; reader = behind r rest false }) (sym (decimals-values run h.values));
      },
    ))

pub done-turn : (r : Reader) → r.is_done ≡ false → r.left ≡ codes "done" ++ 10 ∷ [] → turn r ≡ Ok (record { more = false; values = []; reader = behind r [] true })
done-turn r not_done whole = means_turn r (Ok (record { more = false; values = []; reader = behind r [] true })) not_done (inl (record { line = whole; turn = refl }))
