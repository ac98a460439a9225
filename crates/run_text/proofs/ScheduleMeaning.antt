-- What a call for a schedule line gives by the functions is what it means by the forms of lines.
use Rattle.std.proofs.Common.{◌≡◌, ◌≢◌, ℕ, List, [], ◌∷◌, ◌++◌, Bool, true, false, refl, ap, ◌∙◌, sym, subst, cond, Option, Some, None, Result, Ok, Err, inl, inr, ⊎_elim}
use Rattle.std.specs.Prelude.{codes}
use Rattle.std.specs.Str.{bytes_eq}
use Rattle.std.proofs.lemmas.List.{append-nil}
use Rattle.std.proofs.lemmas.Slice.Eq.{bytes_eq-Decides}
use Rattle.test_lang.specs.declared.step.Step.{Step}
use Rattle.test_lang.specs.Text.Line.{IsLine, StartsWithLine, first_line}
use Rattle.test_lang.proofs.TextLemmas.Lines.{first_line-starts, first_line-none_is, first_line-of, first_line-of_none}
use Rattle.run_text.specs.declared.fault.RunFault.{RunFault}
use Rattle.run_text.specs.declared.fault.RunFault.TheVariants.{BadRunLine, WrongCount, ValueRange, NoDone, AfterDone, Memory}
use Rattle.run_text.specs.NextLine.{end_behind, next_from, next_line}
use Rattle.run_text.specs.Steps.{all_steps_fit, schedule_steps, judged_steps}
use Rattle.run_text.specs.ScheduleReader.{Schedules, ScheduleTurn, schedule_at, turn_at, schedule_turn, GivesSchedule}
use Rattle.run_text.specs.ScheduleGrammar.{schedule_line, SpellsSteps, StartsWithSchedule, IsNoScheduleLine, ReadsSchedule, EndsSchedules, ScheduleMeans}
use Rattle.run_text.proofs.Meaning.{not_done, is_not_done, IsLine-done}
use Rattle.run_text.proofs.ScheduleForms.{schedule_steps-spelled, schedule_steps-spelling, IsLine-spelled, steps_fit-true, steps_fit-false, steps_fit-of, steps_fit-of_large}

-- From the functions to the forms.
module _ (r : Schedules) where
  end_means : (rest : List ℕ) → r.left ≡ codes "done" ++ 10 ∷ rest → ScheduleMeans r (turn_at r (end_behind r.line rest))
  end_means [] e = inl (record { line = e; turn = refl })
  end_means (c ∷ rest) e = (refl, c, rest, e)

  module _ (line rest : List ℕ) (starts : StartsWithLine r.left line rest) where
    fit_means : (steps : List Step) → SpellsSteps steps line → (fit : Bool) → all_steps_fit steps ≡ fit → ScheduleMeans r (schedule_at r rest (cond fit (Ok steps) (Err (ValueRange r.line))))
    fit_means steps spells true e = inr (steps, rest, record { line = record { line = line; spells = spells; whole = starts.whole }; fit = steps_fit-true steps e; turn = refl })
    fit_means steps spells false e = (refl, steps, rest, record { line = line; spells = spells; whole = starts.whole }, steps_fit-false steps e)

    schedule_means : line ≢ codes "done" → (read : Option (List Step)) → schedule_steps line ≡ read → ScheduleMeans r (schedule_at r rest (judged_steps r.line read))
    schedule_means other None e = (
      refl,
      line,
      rest,
      record { starts = starts; not_done = other; not_schedule = λ steps spells. let h = sym e ∙ schedule_steps-spelling line steps spells in absurd cc },
    )
    schedule_means other (Some steps) e = fit_means steps (schedule_steps-spelled line steps e) (all_steps_fit steps) refl

    line_means : (done : Bool) → bytes_eq line (codes "done") ≡ done → ScheduleMeans r (turn_at r (cond done (end_behind r.line rest) (Ok (Some (line, rest)))))
    line_means true e = end_means rest (starts.whole ∙ ap (λ (ys : List ℕ). ys ++ 10 ∷ rest) ((bytes_eq-Decides line (codes "done")).0 e))
    line_means false e = schedule_means (not_done line e) (schedule_steps line) refl

  text_means : (found : Option (List ℕ × List ℕ)) → first_line r.left ≡ found → ScheduleMeans r (turn_at r (next_from r.line found))
  text_means None e = (refl, first_line-none_is r.left e)
  text_means (Some l) e = line_means l.0 l.1 (first_line-starts r.left l e) (bytes_eq l.0 (codes "done")) refl

  pub schedule_not_ended : r.is_done ≡ false → schedule_turn r ≡ turn_at r (next_line r.line r.left)
  schedule_not_ended e = ap (λ (b : Bool). cond b (Ok (record { more = false; steps = []; reader = r })) (turn_at r (next_line r.line r.left))) e

  pub schedule_turn_means : r.is_done ≡ false → ScheduleMeans r (schedule_turn r)
  schedule_turn_means e = subst (ScheduleMeans r) (sym (schedule_not_ended e)) (text_means (first_line r.left) refl)

-- From the forms to the functions.
module _ (r : Schedules) where
  closed_by : (line rest : List ℕ) → IsLine line → r.left ≡ line ++ 10 ∷ rest → turn_at r (next_line r.line r.left) ≡ turn_at r (next_from r.line (Some (line, rest)))
  closed_by line rest h e = ap (λ (found : Option (List ℕ × List ℕ)). turn_at r (next_from r.line found)) (first_line-of r.left line rest (record { no_feed = h; whole = e }))

  spelled_turn : (steps : List Step) (rest : List ℕ) → StartsWithSchedule r.left steps rest → (fit : Bool) → all_steps_fit steps ≡ fit
      → turn_at r (next_line r.line r.left) ≡ schedule_at r rest (cond fit (Ok steps) (Err (ValueRange r.line)))
  spelled_turn steps rest h fit e =
      let s = h.spells in
      let spelled : SpellsSteps steps (schedule_line s.texts) = record { texts = s.texts; each = s.each; whole = refl } in
      closed_by h.line rest (IsLine-spelled h.line steps s) h.whole
      ∙ ap (λ (line : List ℕ). turn_at r (next_from r.line (Some (line, rest)))) s.whole
      ∙ ap (λ (read : Option (List Step)). schedule_at r rest (judged_steps r.line read)) (schedule_steps-spelling (schedule_line s.texts) steps spelled)
      ∙ ap (λ (b : Bool). schedule_at r rest (cond b (Ok steps) (Err (ValueRange r.line)))) e

  no_schedule : (line : List ℕ) → IsNoScheduleLine line → schedule_steps line ≡ None
  no_schedule line h = go (schedule_steps line) refl
    where
      go : (o : Option (List Step)) → schedule_steps line ≡ o → o ≡ None
      go None e = refl
      go (Some steps) e = absurd (h steps (schedule_steps-spelled line steps e))

  means_text : (o : Result ScheduleTurn RunFault) → ScheduleMeans r o → turn_at r (next_line r.line r.left) ≡ o
  means_text (Ok t) h = ⊎_elim
      (λ (is : EndsSchedules r t). closed_by (codes "done") [] IsLine-done is.line ∙ ap Ok (sym is.turn))
      (λ (is : (steps : List Step) × (rest : List ℕ) × ReadsSchedule r t steps rest). spelled_turn is.0 is.1 is.2.line true (steps_fit-of is.0 is.2.fit) ∙ ap Ok (sym is.2.turn))
      h
  means_text (Err (NoDone line)) h =
      ap (λ (found : Option (List ℕ × List ℕ)). turn_at r (next_from r.line found)) (first_line-of_none r.left h.1) ∙ ap (λ (n : ℕ). Err (NoDone n)) (sym h.0)
  means_text (Err (BadRunLine line)) h =
      let bad = h.3 in
      closed_by h.1 h.2 bad.starts.no_feed bad.starts.whole
      ∙ ap (λ (b : Bool). turn_at r (cond b (end_behind r.line h.2) (Ok (Some (h.1, h.2))))) (is_not_done h.1 bad.not_done)
      ∙ ap (λ (o : Option (List Step)). schedule_at r h.2 (judged_steps r.line o)) (no_schedule h.1 bad.not_schedule)
      ∙ ap (λ (n : ℕ). Err (BadRunLine n)) (sym h.0)
  means_text (Err (WrongCount line want got)) h = absurd h
  means_text (Err (ValueRange line)) h = spelled_turn h.1 h.2 h.3 false (steps_fit-of_large h.1 h.4) ∙ ap (λ (n : ℕ). Err (ValueRange n)) (sym h.0)
  means_text (Err (AfterDone line)) h = closed_by (codes "done") (h.1 ∷ h.2) IsLine-done h.3 ∙ ap (λ (n : ℕ). Err (AfterDone n)) (sym h.0)
  means_text (Err Memory) h = absurd h

  pub means_schedule_turn : (o : Result ScheduleTurn RunFault) → r.is_done ≡ false → ScheduleMeans r o → schedule_turn r ≡ o
  means_schedule_turn o e h = schedule_not_ended r e ∙ means_text o h

-- After `done` a call answers `false`, and changes nothing.

pub schedules_ended : (r : Schedules) → r.is_done ≡ true → schedule_turn r ≡ Ok (record { more = false; steps = []; reader = r })
schedules_ended r e = ap (λ (b : Bool). cond b (Ok (record { more = false; steps = []; reader = r })) (turn_at r (next_line r.line r.left))) e

pub ended_stays : (r after : Schedules) (old new : List Step) (result : Result Bool RunFault) → r.is_done ≡ true → result ≡ Ok false → GivesSchedule result old new r after (schedule_turn r)
    → (result ≡ Ok false) × (new ≡ old) × (after ≡ r)
ended_stays r after old new result done is h =
    let told : GivesSchedule result old new r after (Ok (record { more = false; steps = []; reader = r })) = subst (GivesSchedule result old new r after) (schedules_ended r done) h in
    let here : GivesSchedule (Ok false) old new r after (Ok (record { more = false; steps = []; reader = r })) =
    subst (λ (x : Result Bool RunFault). GivesSchedule x old new r after (Ok (record { more = false; steps = []; reader = r }))) is told in
    (is, here.steps_added ∙ append-nil old, here.reader_moved)
