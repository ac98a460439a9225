-- How the steps of a line are read and kept, and what is said of the line in the end.
use Rattle.std.proofs.Common.{◌≡◌, ◌≢◌, ℕ, List, [], ◌∷◌, ◌++◌, Bool, true, false, ◌&&◌, refl, ap, ◌∙◌, sym, subst, cond, append_assoc, Option, Some, None, Ok, Err}
use Rattle.std.specs.Prelude.{codes}
use Rattle.std.specs.Option.{option_map}
use Rattle.std.specs.Str.{bytes_eq}
use Rattle.std.proofs.lemmas.Bool.{and_parts}
use Rattle.std.proofs.lemmas.List.{append-nil}
use Rattle.std.proofs.lemmas.List.Elements.{filter-append}
use Rattle.std.proofs.lemmas.List.Folds.{list_all-append}
use Rattle.test_lang.specs.declared.step.Step.{Step}
use Rattle.run_text.specs.declared.fault.RunFault.TheVariants.{BadRunLine, ValueRange}
use Rattle.run_text.specs.declared.step_text.ReadStep.{ReadStep}
use Rattle.run_text.specs.declared.step_text.ReadStep.TheVariants.{Fits, IsLarge}
use Rattle.run_text.specs.Steps.{step_of, fits_step, all_steps_fit, fitting, parts_of, with_step, all_steps, steps_of_parts, schedule_steps, judged_steps}
use Rattle.run_text.specs.ReadSteps.{as_read, AreKept, MayKeepSteps, AppendsSteps, StepsSoFar}
use Rattle.run_text.proofs.Meaning.{is_other_text}

-- what was read of a text
read-some : (read : ReadStep) (o : Option Step) → Some read ≡ option_map as_read o → (step : Step) × (o ≡ Some step) × (read ≡ as_read step)
read-some read None e = absurd cc
read-some read (Some step) e = (step, refl, cc)

read-none : (o : Option Step) → None ≡ option_map as_read o → o ≡ None
read-none None e = refl
read-none (Some step) e = absurd cc

as_read-fits : (found step : Step) (fit : Bool) → Fits found ≡ cond fit (Fits step) IsLarge → (fit ≡ true) × (found ≡ step)
as_read-fits found step true e = (refl, cc)
as_read-fits found step false e = absurd cc

as_read-large : (step : Step) (fit : Bool) → IsLarge ≡ cond fit (Fits step) IsLarge → fit ≡ false
as_read-large step true e = absurd cc
as_read-large step false e = refl

and-both : (a b : Bool) → b ≡ true → a ≡ (a && (b && true))
and-both true b e = sym (ap (λ (c : Bool). c && true) e)
and-both false b e = refl

and-false : (a b : Bool) → b ≡ false → false ≡ (a && (b && true))
and-false true b e = sym (ap (λ (c : Bool). c && true) e)
and-false false b e = refl

-- One more step.
module _ (old new steps : List Step) (found : Bool) (h : AreKept old found new steps) (step : Step) where
  one_more : (fit : Bool) → fits_step step ≡ fit → fitting (steps ++ step ∷ []) ≡ fitting steps ++ cond fit (step ∷ []) []
  one_more fit e = filter-append fits_step steps (step ∷ []) ∙ ap (λ (b : Bool). fitting steps ++ cond b (step ∷ []) []) e

  keeps-fitting : fits_step step ≡ true → AreKept old found (new ++ step ∷ []) (steps ++ step ∷ [])
  keeps-fitting e = record {
    fit = h.fit ∙ and-both (all_steps_fit steps) (fits_step step) e ∙ sym (list_all-append fits_step steps (step ∷ []));
    kept = ap (λ (l : List Step). l ++ step ∷ []) h.kept ∙ append_assoc old (fitting steps) (step ∷ []) ∙ ap (λ (l : List Step). old ++ l) (sym (one_more true e));
  }

  keeps-large : fits_step step ≡ false → AreKept old false new (steps ++ step ∷ [])
  keeps-large e = record {
    fit = and-false (all_steps_fit steps) (fits_step step) e ∙ sym (list_all-append fits_step steps (step ∷ []));
    kept = h.kept ∙ ap (λ (l : List Step). old ++ l) (sym (one_more false e ∙ append-nil (fitting steps)));
  }

in_front-push : (steps : List Step) (step : Step) (rest : Option (List Step))
    → option_map (λ more. (steps ++ step ∷ []) ++ more) rest ≡ option_map (λ more. steps ++ more) (with_step (Some step) rest)
in_front-push steps step None = refl
in_front-push steps step (Some more) = ap Some (append_assoc steps (step ∷ []) more)

in_front-none : (step : Option Step) (rest : Option (List Step)) → step ≡ None → with_step step rest ≡ None
in_front-none step rest e = ap (λ (o : Option Step). with_step o rest) e

-- the start
pub steps-none_yet : (all : List (List ℕ)) (old : List Step) → StepsSoFar all all old true old []
steps-none_yet all old = record { keeps = record { fit = refl; kept = sym (append-nil old) }; rest = same (all_steps all) }
  where
    same : (o : Option (List Step)) → option_map (λ (more : List Step). [] ++ more) o ≡ o
    same None = refl
    same (Some steps) = refl

module _ (all left : List (List ℕ)) (old new steps : List Step) (found : Bool) (h : StepsSoFar all left old found new steps) where
  -- The next text is read.
  module _ (text : List ℕ) (texts : List (List ℕ)) (is : left ≡ text ∷ texts) where
    on : (step : Step) → step_of text ≡ Some step → option_map (λ more. (steps ++ step ∷ []) ++ more) (all_steps texts) ≡ all_steps all
    on step e =
        in_front-push steps step (all_steps texts)
        ∙ ap (λ (o : Option Step). option_map (λ (more : List Step). steps ++ more) (with_step o (all_steps texts))) (sym e)
        ∙ ap (λ (l : List (List ℕ)). option_map (λ (more : List Step). steps ++ more) (all_steps l)) (sym is)
        ∙ h.rest

    pub steps-fits : (read : ReadStep) (step : Step) → Some read ≡ option_map as_read (step_of text) → read ≡ Fits step → (steps : List Step) × StepsSoFar all texts old found (new ++ step ∷ []) steps
    steps-fits read step told fits =
        let was = read-some read (step_of text) told in
        let here = as_read-fits step was.0 (fits_step was.0) (sym fits ∙ was.2) in
        let next : StepsSoFar all texts old found (new ++ was.0 ∷ []) (steps ++ was.0 ∷ []) = record { keeps = keeps-fitting old new steps found h.keeps was.0 here.0; rest = on was.0 was.1 } in
        (steps ++ was.0 ∷ [], subst (λ (s : Step). StepsSoFar all texts old found (new ++ s ∷ []) (steps ++ was.0 ∷ [])) (sym here.1) next)

    pub steps-large : (read : ReadStep) → Some read ≡ option_map as_read (step_of text) → read ≡ IsLarge → (steps : List Step) × StepsSoFar all texts old false new steps
    steps-large read told large =
        let was = read-some read (step_of text) told in
        let here = as_read-large was.0 (fits_step was.0) (sym large ∙ was.2) in
        (steps ++ was.0 ∷ [], record { keeps = keeps-large old new steps found h.keeps was.0 here; rest = on was.0 was.1 })

    pub steps-stopped : None ≡ option_map as_read (step_of text) → all_steps all ≡ None
    steps-stopped told =
        sym h.rest ∙ ap (λ (l : List (List ℕ)). option_map (λ (more : List Step). steps ++ more) (all_steps l)) is
        ∙ ap (option_map (λ (more : List Step). steps ++ more)) (in_front-none (step_of text) (all_steps texts) (read-none (step_of text) told))

  -- No text is left.
  pub steps-end : left ≡ [] → MayKeepSteps old (Some found) new (all_steps all)
  steps-end is =
      let whole : all_steps all ≡ Some steps =
      sym h.rest ∙ ap (λ (l : List (List ℕ)). option_map (λ (more : List Step). steps ++ more) (all_steps l)) is ∙ ap Some (append-nil steps) in
      subst (MayKeepSteps old (Some found) new) (sym whole) h.keeps

-- The word in front.
module _ (line word : List ℕ) (texts : List (List ℕ)) (is : parts_of line ≡ word ∷ texts) where
  pub other_word : (old new : List Step) → word ≢ codes "schedule" → MayKeepSteps old None new (schedule_steps line)
  other_word old new other =
      let none : schedule_steps line ≡ None = ap steps_of_parts is ∙ ap (λ (b : Bool). cond b (all_steps texts) None) (is_other_text word (codes "schedule") other) in
      subst (MayKeepSteps old None new) (sym none) tt

  pub the_word : word ≡ codes "schedule" → schedule_steps line ≡ all_steps texts
  the_word same = ap steps_of_parts is ∙ ap (λ (w : List ℕ). cond (bytes_eq w (codes "schedule")) (all_steps texts) None) same

-- What is said of the line.

fitting-all : (steps : List Step) → all_steps_fit steps ≡ true → fitting steps ≡ steps
fitting-all [] e = refl
fitting-all (step ∷ steps) e =
    let parts = and_parts (fits_step step) (all_steps_fit steps) e in
    ap (λ (b : Bool). cond b (step ∷ fitting steps) (fitting steps)) parts.0 ∙ ap (λ (l : List Step). step ∷ l) (fitting-all steps parts.1)

module _ (number : ℕ) (old new : List Step) where
  pub judged-no_steps : (read : Option (List Step)) → MayKeepSteps old None new read → judged_steps number read ≡ Err (BadRunLine number)
  judged-no_steps None h = refl
  judged-no_steps (Some steps) h = absurd h

  pub judged-large : (read : Option (List Step)) → MayKeepSteps old (Some false) new read → judged_steps number read ≡ Err (ValueRange number)
  judged-large None h = absurd h
  judged-large (Some steps) h = ap (λ (b : Bool). cond b (Ok steps) (Err (ValueRange number))) (sym h.fit)

  pub judged-fitting : (read : Option (List Step)) → MayKeepSteps old (Some true) new read → AppendsSteps {X = Unit {0}} old (Ok tt) new (judged_steps number read)
  judged-fitting None h = absurd h
  judged-fitting (Some steps) h =
      let appended : new ≡ old ++ steps = h.kept ∙ ap (λ (l : List Step). old ++ l) (fitting-all steps (sym h.fit)) in
      subst (AppendsSteps {X = Unit {0}} old (Ok tt) new) (ap (λ (b : Bool). cond b (Ok steps) (Err (ValueRange number))) h.fit) appended
