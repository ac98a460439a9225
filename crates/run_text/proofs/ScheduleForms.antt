-- The schedule line that is read is the schedule line that is spelled.
use Rattle.std.proofs.Common.{◌≡◌, ◌≢◌, ◌⊎◌, ℕ, ◌^◌, ◌<◌, ◌≤◌, List, [], ◌∷◌, ◌++◌, Bool, true, false, ◌&&◌, refl, ap, arith, ◌∙◌, sym, subst, cond, Option, Some, None, eqb, inl, inr, ⊎_elim}
use Rattle.std.specs.Prelude.{codes}
use Rattle.std.specs.List.{flat_map, onto_first, AllByRecursion}
use Rattle.std.specs.Str.{bytes_eq}
use Rattle.std.proofs.lemmas.Bool.{and_parts, and_from, and_cases, and_left, and_right, lt-ltb, ltb-true, le-ltb, ltb-false, ne_eqb, eqb-true}
use Rattle.std.proofs.lemmas.Slice.Eq.{bytes_eq-Decides}
use Rattle.test_lang.specs.declared.step.Step.{Step}
use Rattle.test_lang.specs.declared.step.Step.TheVariants.{Execute, Drain, Perform}
use Rattle.test_lang.specs.Text.Line.{IsLine}
use Rattle.test_lang.specs.Text.Numeral.{part}
use Rattle.test_lang.proofs.TextLemmas.Choices.{guarded}
use Rattle.run_text.specs.Items.{AreLinesOf}
use Rattle.run_text.specs.Parts.{fits}
use Rattle.run_text.specs.Steps.{step_of, fits_step, all_steps_fit, parts_of, with_step, all_steps, steps_of_parts, schedule_steps}
use Rattle.run_text.specs.ScheduleGrammar.{IsTextOfStep, schedule_line, SpellsSteps, StepFits, StepIsLarge, AllStepsFit, HasLargeStep}
use Rattle.run_text.proofs.StepTexts.{step_of-spelled, step_of-spelling, Avoids, avoids-append, avoids-step}

-- Parts that are joined by spaces.

parts_of-word : (word rest : List ℕ) (texts : List (List ℕ)) → Avoids 32 word → parts_of rest ≡ [] ∷ texts → parts_of (word ++ rest) ≡ word ∷ texts
parts_of-word [] rest texts h e = e
parts_of-word (c ∷ word) rest texts h e =
    ap (λ (b : Bool). cond b ([] ∷ parts_of (word ++ rest)) (onto_first c (parts_of (word ++ rest)))) (ne_eqb c 32 h.0) ∙ ap (onto_first c) (parts_of-word word rest texts h.1 e)

parts_of-texts : (texts : List (List ℕ)) → AllByRecursion (Avoids 32) texts → parts_of (flat_map part texts) ≡ [] ∷ texts
parts_of-texts [] h = refl
parts_of-texts (text ∷ texts) h = ap (λ (ps : List (List ℕ)). [] ∷ ps) (parts_of-word text (flat_map part texts) texts h.0 (parts_of-texts texts h.1))

-- the bytes that have these parts
abbrev joined : List (List ℕ) → List ℕ
joined [] = []
joined (word ∷ texts) = word ++ flat_map part texts

joined-onto_first : (c : ℕ) (parts : List (List ℕ)) → joined (onto_first c parts) ≡ c ∷ joined parts
joined-onto_first c [] = refl
joined-onto_first c (word ∷ texts) = refl

part-joined : (parts : List (List ℕ)) → parts ≢ [] → flat_map part parts ≡ 32 ∷ joined parts
part-joined [] some = absurd (some refl)
part-joined (word ∷ texts) some = refl

onto_first-some : (c : ℕ) (parts : List (List ℕ)) → onto_first c parts ≢ []
onto_first-some c [] = λ e. absurd cc
onto_first-some c (word ∷ texts) = λ e. absurd cc

parts_of-some : (line : List ℕ) → parts_of line ≢ []
parts_of-some [] = λ e. absurd cc
parts_of-some (c ∷ cs) = go (eqb c 32)
  where
    go : (b : Bool) → cond b ([] ∷ parts_of cs) (onto_first c (parts_of cs)) ≢ []
    go true = λ e. absurd cc
    go false = onto_first-some c (parts_of cs)

joined-parts_of : (line : List ℕ) → joined (parts_of line) ≡ line
joined-parts_of [] = refl
joined-parts_of (c ∷ cs) = go (eqb c 32) refl (joined-parts_of cs)
  where
    go : (b : Bool) → eqb c 32 ≡ b → joined (parts_of cs) ≡ cs → joined (cond b ([] ∷ parts_of cs) (onto_first c (parts_of cs))) ≡ c ∷ cs
    go true e later = part-joined (parts_of cs) (parts_of-some cs) ∙ ap (λ (ys : List ℕ). 32 ∷ ys) later ∙ ap (λ (k : ℕ). k ∷ cs) (sym (eqb-true c 32 e))
    go false e later = joined-onto_first c (parts_of cs) ∙ ap (λ (ys : List ℕ). c ∷ ys) later

-- The steps of the parts.

with_step-some : (first : Option Step) (rest : Option (List Step)) (steps : List Step) → with_step first rest ≡ Some steps
    → (step : Step) × (more : List Step) × (first ≡ Some step) × (rest ≡ Some more) × (step ∷ more ≡ steps)
with_step-some None rest steps e = absurd cc
with_step-some (Some step) None steps e = absurd cc
with_step-some (Some step) (Some more) steps e = (step, more, refl, refl, cc)

all_steps-spelled : (texts : List (List ℕ)) (steps : List Step) → all_steps texts ≡ Some steps → AreLinesOf IsTextOfStep steps texts
all_steps-spelled [] [] e = tt
all_steps-spelled [] (step ∷ steps) e = absurd cc
all_steps-spelled (text ∷ texts) steps e =
    let read = with_step-some (step_of text) (all_steps texts) steps e in
    subst (λ (l : List Step). AreLinesOf IsTextOfStep l (text ∷ texts)) read.4 (step_of-spelled text read.0 read.2, all_steps-spelled texts read.1 read.3)

all_steps-spelling : (steps : List Step) (texts : List (List ℕ)) → AreLinesOf IsTextOfStep steps texts → all_steps texts ≡ Some steps
all_steps-spelling [] [] h = refl
all_steps-spelling [] (text ∷ texts) h = absurd h
all_steps-spelling (step ∷ steps) [] h = absurd h
all_steps-spelling (step ∷ steps) (text ∷ texts) h =
    ap (λ (o : Option Step). with_step o (all_steps texts)) (step_of-spelling step text h.0) ∙ ap (with_step (Some step)) (all_steps-spelling steps texts h.1)

avoids-texts : (n : ℕ) (low : n < 33) (steps : List Step) (texts : List (List ℕ)) → AreLinesOf IsTextOfStep steps texts → AllByRecursion (Avoids n) texts
avoids-texts n low [] [] h = tt
avoids-texts n low [] (text ∷ texts) h = absurd h
avoids-texts n low (step ∷ steps) [] h = absurd h
avoids-texts n low (step ∷ steps) (text ∷ texts) h = (avoids-step n low step text h.0, avoids-texts n low steps texts h.1)

-- The word of a schedule line has no small byte either.
module _ (n : ℕ) (low : n < 33) where
  other : (c : ℕ) → 33 ≤ c → c ≢ n
  other c high = λ (same : c ≡ n). absurd (omega (arith, high, same, low))

  avoids-word : Avoids n (codes "schedule")
  avoids-word = (
    other 115 (omega arith),
    (other 99 (omega arith), (other 104 (omega arith), (other 101 (omega arith), (other 100 (omega arith), (other 117 (omega arith), (other 108 (omega arith), (other 101 (omega arith), tt))))))),
  )

-- Lines.

pub schedule_steps-spelled : (line : List ℕ) (steps : List Step) → schedule_steps line ≡ Some steps → SpellsSteps steps line
schedule_steps-spelled line steps e = go (parts_of line) refl e
  where
    go : (parts : List (List ℕ)) → parts_of line ≡ parts → steps_of_parts parts ≡ Some steps → SpellsSteps steps line
    go [] is e = absurd cc
    go (word ∷ texts) is e =
        let read = guarded (bytes_eq word (codes "schedule")) (all_steps texts) steps e in
        record {
          texts = texts;
          each = all_steps-spelled texts steps read.1;
          whole = sym (joined-parts_of line) ∙ ap joined is ∙ ap (λ (w : List ℕ). w ++ flat_map part texts) ((bytes_eq-Decides word (codes "schedule")).0 read.0);
        }

pub schedule_steps-spelling : (line : List ℕ) (steps : List Step) → SpellsSteps steps line → schedule_steps line ≡ Some steps
schedule_steps-spelling line steps h =
    let low : 32 < 33 = omega arith in
    ap schedule_steps h.whole
    ∙ ap steps_of_parts (parts_of-word (codes "schedule") (flat_map part h.texts) h.texts (avoids-word 32 low) (parts_of-texts h.texts (avoids-texts 32 low steps h.texts h.each)))
    ∙ all_steps-spelling steps h.texts h.each

avoids-parts : (n : ℕ) (low : n < 32) (texts : List (List ℕ)) → AllByRecursion (Avoids n) texts → Avoids n (flat_map part texts)
avoids-parts n low [] h = tt
avoids-parts n low (text ∷ texts) h = (λ (same : 32 ≡ n). absurd (omega (arith, same, low)), avoids-append n (omega (arith, low)) text (flat_map part texts) h.0 (avoids-parts n low texts h.1))

avoids-IsLine : (line : List ℕ) → Avoids 10 line → IsLine line
avoids-IsLine [] h = tt
avoids-IsLine (c ∷ cs) h = (h.0, avoids-IsLine cs h.1)

pub IsLine-spelled : (line : List ℕ) (steps : List Step) → SpellsSteps steps line → IsLine line
IsLine-spelled line steps h =
    let low : 10 < 33 = omega arith in
    let lower : 10 < 32 = omega arith in
    subst IsLine (sym h.whole)
    (avoids-IsLine (schedule_line h.texts) (avoids-append 10 low (codes "schedule") (flat_map part h.texts) (avoids-word 10 low) (avoids-parts 10 lower h.texts (avoids-texts 10 low steps h.texts h.each))))

-- Whether all numbers fit.

both_fit : (a b : ℕ) → (fits a && fits b) ≡ true → (a < 2 ^ 32) × (b < 2 ^ 32)
both_fit a b e = let parts = and_parts (fits a) (fits b) e in (ltb-true a (2 ^ 32) parts.0, ltb-true b (2 ^ 32) parts.1)

fits_step-true : (step : Step) → fits_step step ≡ true → StepFits step
fits_step-true (Execute thread) e = ltb-true thread (2 ^ 32) e
fits_step-true (Drain thread place) e = both_fit thread place e
fits_step-true (Perform thread index) e = both_fit thread index e

both-of : (a b : ℕ) → (a < 2 ^ 32) × (b < 2 ^ 32) → (fits a && fits b) ≡ true
both-of a b h = and_from (fits a) (fits b) (lt-ltb a (2 ^ 32) h.0) (lt-ltb b (2 ^ 32) h.1)

fits_step-of : (step : Step) → StepFits step → fits_step step ≡ true
fits_step-of (Execute thread) h = lt-ltb thread (2 ^ 32) h
fits_step-of (Drain thread place) h = both-of thread place h
fits_step-of (Perform thread index) h = both-of thread index h

some_large : (a b : ℕ) → (fits a && fits b) ≡ false → (2 ^ 32 ≤ a) ⊎ (2 ^ 32 ≤ b)
some_large a b e = ⊎_elim
    (λ (large : fits a ≡ false). inl (ltb-false a (2 ^ 32) large))
    (λ (large : fits b ≡ false). inr (ltb-false b (2 ^ 32) large))
    (and_cases (fits a) (fits b) e)

fits_step-false : (step : Step) → fits_step step ≡ false → StepIsLarge step
fits_step-false (Execute thread) e = ltb-false thread (2 ^ 32) e
fits_step-false (Drain thread place) e = some_large thread place e
fits_step-false (Perform thread index) e = some_large thread index e

large-of : (a b : ℕ) → (2 ^ 32 ≤ a) ⊎ (2 ^ 32 ≤ b) → (fits a && fits b) ≡ false
large-of a b h = ⊎_elim
    (λ (large : 2 ^ 32 ≤ a). and_left (fits a) (fits b) (le-ltb a (2 ^ 32) large))
    (λ (large : 2 ^ 32 ≤ b). and_right (fits a) (fits b) (le-ltb b (2 ^ 32) large))
    h

fits_step-of_large : (step : Step) → StepIsLarge step → fits_step step ≡ false
fits_step-of_large (Execute thread) h = le-ltb thread (2 ^ 32) h
fits_step-of_large (Drain thread place) h = large-of thread place h
fits_step-of_large (Perform thread index) h = large-of thread index h

pub steps_fit-true : (steps : List Step) → all_steps_fit steps ≡ true → AllStepsFit steps
steps_fit-true [] e = tt
steps_fit-true (step ∷ steps) e = let parts = and_parts (fits_step step) (all_steps_fit steps) e in (fits_step-true step parts.0, steps_fit-true steps parts.1)

pub steps_fit-false : (steps : List Step) → all_steps_fit steps ≡ false → HasLargeStep steps
steps_fit-false [] e = absurd cc
steps_fit-false (step ∷ steps) e = ⊎_elim
    (λ (large : fits_step step ≡ false). inl (fits_step-false step large))
    (λ (later : all_steps_fit steps ≡ false). inr (steps_fit-false steps later))
    (and_cases (fits_step step) (all_steps_fit steps) e)

pub steps_fit-of : (steps : List Step) → AllStepsFit steps → all_steps_fit steps ≡ true
steps_fit-of [] h = refl
steps_fit-of (step ∷ steps) h = and_from (fits_step step) (all_steps_fit steps) (fits_step-of step h.0) (steps_fit-of steps h.1)

pub steps_fit-of_large : (steps : List Step) → HasLargeStep steps → all_steps_fit steps ≡ false
steps_fit-of_large [] h = absurd h
steps_fit-of_large (step ∷ steps) h = ⊎_elim
    (λ (large : StepIsLarge step). and_left (fits_step step) (all_steps_fit steps) (fits_step-of_large step large))
    (λ (later : HasLargeStep steps). and_right (fits_step step) (all_steps_fit steps) (steps_fit-of_large steps later))
    h
