-- The step that is read is the step that the text spells, and the other way.
use Rattle.std.proofs.Common.{◌≡◌, ◌≢◌, ℕ, ◌<◌, ◌≤◌, List, [], ◌∷◌, ◌++◌, true, false, refl, ap, arith, ◌∙◌, sym, subst, cond, Option, Some, None, eqb, inl, inr, ⊎_elim}
use Rattle.std.specs.Prelude.{codes}
use Rattle.std.specs.Option.{option_map}
use Rattle.std.proofs.lemmas.Bool.{eqb-true}
use Rattle.std.proofs.lemmas.List.{append-nil}
use Rattle.test_lang.specs.declared.step.Step.{Step}
use Rattle.test_lang.specs.declared.step.Step.TheVariants.{Execute, Drain, Perform}
use Rattle.test_lang.specs.Text.Numeral.{AreDigits, IsNumeral, IsNumeralOf, StartsWithNumeral, numeral_at, whole_numeral}
use Rattle.test_lang.proofs.TextLemmas.Choices.{chosen, guarded}
use Rattle.test_lang.proofs.TextLemmas.Numerals.{numeral_at-spelled, numeral_at-of, whole_numeral-spelled, whole_numeral-of}
use Rattle.run_text.specs.Steps.{drain_of, step_behind, step_from, step_of}
use Rattle.run_text.specs.ScheduleGrammar.{IsBehindNumeral, AreMarkedNumerals, IsTextOfStep}

map_some : {X : Type 0} (f : X → Step) (o : Option X) (step : Step) → option_map f o ≡ Some step → (x : X) × (o ≡ Some x) × (f x ≡ step)
map_some f None step e = absurd cc
map_some f (Some x) step e = (x, refl, cc)

-- From the step that is read to the text.
module _ (text : List ℕ) (thread : ℕ) where
  marked : (mark : List ℕ) (rest : List ℕ) → StartsWithNumeral text thread (mark ++ rest) → (second : ℕ) → whole_numeral rest ≡ Some second → AreMarkedNumerals thread mark second text
  marked mark rest starts second e = record {
    numeral = rest;
    is_numeral = whole_numeral-spelled rest second e;
    front = record { numeral = starts.numeral; is_numeral = starts.is_numeral; whole = starts.whole };
  }

  drain-spelled : (rest : List ℕ) (step : Step) → StartsWithNumeral text thread (33 ∷ rest) → drain_of thread rest ≡ Some step → IsTextOfStep step text
  drain-spelled [] step starts e =
      let is : Drain thread 0 ≡ step = cc in
      subst (λ (s : Step). IsTextOfStep s text) is (inl (refl, record { numeral = starts.numeral; is_numeral = starts.is_numeral; whole = starts.whole }))
  drain-spelled (c ∷ cs) step starts e =
      let read = map_some (Drain thread) (whole_numeral (c ∷ cs)) step e in
      subst (λ (s : Step). IsTextOfStep s text) read.2 (inr (marked (codes "!") (c ∷ cs) starts read.0 read.1))

  behind-spelled : (rest : List ℕ) (step : Step) → StartsWithNumeral text thread rest → step_behind thread rest ≡ Some step → IsTextOfStep step text
  behind-spelled [] step starts e =
      let is : Execute thread ≡ step = cc in
      let whole : starts.numeral ≡ text = sym (starts.whole ∙ append-nil starts.numeral) in
      subst (λ (s : Step). IsTextOfStep s text) is (subst (IsNumeralOf thread) whole starts.is_numeral)
  behind-spelled (c ∷ cs) step starts e = ⊎_elim
      (λ (drain : (eqb c 33 ≡ true) × (drain_of thread cs ≡ Some step)).
      drain-spelled cs step (subst (λ (n : ℕ). StartsWithNumeral text thread (n ∷ cs)) (eqb-true c 33 drain.0) starts) drain.1)
      (λ (other : (eqb c 33 ≡ false) × (cond (eqb c 58) (option_map (Perform thread) (whole_numeral cs)) None ≡ Some step)).
      let perform = guarded (eqb c 58) (option_map (Perform thread) (whole_numeral cs)) step other.1 in
      let read = map_some (Perform thread) (whole_numeral cs) step perform.1 in
      subst (λ (s : Step). IsTextOfStep s text) read.2
      (marked (codes ":") cs (subst (λ (n : ℕ). StartsWithNumeral text thread (n ∷ cs)) (eqb-true c 58 perform.0) starts) read.0 read.1))
      (chosen (eqb c 33) (drain_of thread cs) (cond (eqb c 58) (option_map (Perform thread) (whole_numeral cs)) None) (Some step) e)

from-spelled : (text : List ℕ) (step : Step) (found : Option (ℕ × List ℕ)) → numeral_at text ≡ found → step_from found ≡ Some step → IsTextOfStep step text
from-spelled text step None here e = absurd cc
from-spelled text step (Some read) here e = behind-spelled text read.0 read.1 step (numeral_at-spelled text read here) e

pub step_of-spelled : (text : List ℕ) (step : Step) → step_of text ≡ Some step → IsTextOfStep step text
step_of-spelled text step e = from-spelled text step (numeral_at text) refl e

-- From the text to the step that is read.

drain_of-numeral : (thread place : ℕ) (second : List ℕ) → IsNumeralOf place second → drain_of thread second ≡ Some (Drain thread place)
drain_of-numeral thread place [] h = absurd h.numeral
drain_of-numeral thread place (c ∷ cs) h = ap (option_map (Drain thread)) (whole_numeral-of (c ∷ cs) place h)

pub step_of-spelling : (step : Step) (text : List ℕ) → IsTextOfStep step text → step_of text ≡ Some step
step_of-spelling (Execute thread) text h = ap step_of (sym (append-nil text)) ∙ ap step_from (numeral_at-of text [] thread h tt)
step_of-spelling (Drain thread place) text h = ⊎_elim
    (λ (first : (place ≡ 0) × IsBehindNumeral thread (codes "!") text).
    let f = first.1 in
    ap step_of f.whole ∙ ap step_from (numeral_at-of f.numeral (33 ∷ []) thread f.is_numeral refl) ∙ ap (λ (k : ℕ). Some (Drain thread k)) (sym first.0))
    (λ (m : AreMarkedNumerals thread (codes "!") place text).
    let f = m.front in
    ap step_of f.whole ∙ ap step_from (numeral_at-of f.numeral (33 ∷ m.numeral) thread f.is_numeral refl) ∙ drain_of-numeral thread place m.numeral m.is_numeral)
    h
step_of-spelling (Perform thread index) text h =
    let f = h.front in
    ap step_of f.whole ∙ ap step_from (numeral_at-of f.numeral (58 ∷ h.numeral) thread f.is_numeral refl) ∙ ap (option_map (Perform thread)) (whole_numeral-of h.numeral index h.is_numeral)

-- No text of a step has a small byte, as a space or a line feed.

abbrev pub Avoids : ℕ → List ℕ → Type 0
Avoids n [] = Unit {0}
Avoids n (c ∷ cs) = (c ≢ n) × Avoids n cs

module _ (n : ℕ) (low : n < 33) where
  pub avoids-append : (xs ys : List ℕ) → Avoids n xs → Avoids n ys → Avoids n (xs ++ ys)
  avoids-append [] ys h k = k
  avoids-append (c ∷ xs) ys h k = (h.0, avoids-append xs ys h.1 k)

  avoids-digits : (xs : List ℕ) → AreDigits xs → Avoids n xs
  avoids-digits [] h = tt
  avoids-digits (c ∷ cs) h = (λ (same : c ≡ n). absurd (omega (arith, h.0, same, low)), avoids-digits cs h.2)

  avoids-numeral : (xs : List ℕ) → IsNumeral xs → Avoids n xs
  avoids-numeral [] h = absurd h
  avoids-numeral (c ∷ cs) h = ⊎_elim
      (λ (is : (c ≡ 48) × (cs ≡ [])). (λ (same : c ≡ n). absurd (omega (arith, is.0, same, low)), subst (Avoids n) (sym is.1) tt))
      (λ (is : (49 ≤ c) × (c ≤ 57) × AreDigits cs). (λ (same : c ≡ n). absurd (omega (arith, is.0, same, low)), avoids-digits cs is.2))
      h

  avoids-front : (first : ℕ) (rest text : List ℕ) → IsBehindNumeral first rest text → Avoids n rest → Avoids n text
  avoids-front first rest text f h = subst (Avoids n) (sym f.whole) (avoids-append f.numeral rest (avoids-numeral f.numeral f.is_numeral.numeral) h)

  pub avoids-step : (step : Step) (text : List ℕ) → IsTextOfStep step text → Avoids n text
  avoids-step (Execute thread) text h = avoids-numeral text h.numeral
  avoids-step (Drain thread place) text h = ⊎_elim
      (λ (first : (place ≡ 0) × IsBehindNumeral thread (codes "!") text). avoids-front thread (codes "!") text first.1 (λ (same : 33 ≡ n). absurd (omega (arith, same, low)), tt))
      (λ (m : AreMarkedNumerals thread (codes "!") place text).
      avoids-front thread (33 ∷ m.numeral) text m.front (λ (same : 33 ≡ n). absurd (omega (arith, same, low)), avoids-numeral m.numeral m.is_numeral.numeral))
      h
  avoids-step (Perform thread index) text h =
      avoids-front thread (58 ∷ h.numeral) text h.front (λ (same : 58 ≡ n). absurd (omega (arith, same, low)), avoids-numeral h.numeral h.is_numeral.numeral)
