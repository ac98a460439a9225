-- What reading and playing the next schedule tells.
use Rattle.std.proofs.Common.{◌≡◌, ◌∙◌, List, [], ◌∷◌, ◌++◌, ℕ, Bool, true, false, Result, Ok, Err, refl, sym, ap, subst, inl, inr}
use Rattle.std.specs.Prelude.{codes}
use Rattle.test_lang.specs.declared.step.Step.{Step}
use Rattle.run_text.specs.declared.fault.RunFault.{RunFault}
use Rattle.run_text.specs.declared.fault.RunFault.TheVariants.{BadRunLine, WrongCount, ValueRange, NoDone, AfterDone, Memory}
use Rattle.run_text.specs.ScheduleGrammar.{ScheduleMeans, StartsWithSchedule, AllStepsFit}
use Rattle.run_text.specs.ScheduleReader.{Schedules, ScheduleTurn, GivesSchedule, behind}
use Rattle.sim_core.specs.declared.schedule.PlayFault.{PlayFault}
use Rattle.sim_core.specs.Setup.{Setup, IsDonePlayOf}
use Rattle.sim_core.specs.Schedules.{ComesOut}
use Rattle.mtrace_app.specs.declared.failure.Failure.{Failure}
use Rattle.mtrace_app.specs.declared.failure.Failure.TheVariants.{Refused}
use Rattle.mtrace_app.specs.declared.refusal.InputFault.{InputFault}
use Rattle.mtrace_app.specs.declared.refusal.Refusal.{Refusal}
use Rattle.mtrace_app.specs.declared.refusal.Refusal.TheVariants.{Input}
use Rattle.mtrace_app.specs.Failures.{IfRefused, failure_of}
use Rattle.mtrace_app.specs.Inputs.{IsBadForPlays, no_schedule, not_played, fault_behind_test, fault_of_play}
use Rattle.mtrace_app.specs.Played.{IsPlayRead}

-- a schedule line was read
pub record IsScheduleRead (before after : Schedules) (steps : List Step) : Type 0 where
  pub rest : List ℕ
  pub starts : StartsWithSchedule before.left steps rest
  pub fit : AllStepsFit steps
  pub reader : after ≡ behind before rest false

schedule_taken : (before after : Schedules) (more : Bool) (new : List Step) (t : ScheduleTurn) → more ≡ true → ScheduleMeans before (Ok t) → GivesSchedule (Ok more) [] new before after (Ok t) → IsScheduleRead before after new
schedule_taken before after more new t e means gives = elim means [
  | inl ends ↦ let answer = gives.answer in let turn = ap (λ (u : ScheduleTurn). u.more) ends.turn in absurd cc
  | inr read ↦
      let is = read.2 in
      let steps : new ≡ read.0 = gives.steps_added ∙ ap (λ (u : ScheduleTurn). u.steps) is.turn in
      record {
        rest = read.1;
        starts = subst (λ (s : List Step). StartsWithSchedule before.left s read.1) (sym steps) is.line;
        fit = subst AllStepsFit (sym steps) is.fit;
        reader = gives.reader_moved ∙ ap (λ (u : ScheduleTurn). u.reader) is.turn;
      }
]

pub schedule_read : (before after : Schedules) (more : Bool) (new : List Step) (meant : Result ScheduleTurn RunFault) → more ≡ true → ScheduleMeans before meant → GivesSchedule (Ok more) [] new before after meant → IsScheduleRead before after new
schedule_read before after more new (Ok t) e means gives = schedule_taken before after more new t e means gives
schedule_read before after more new (Err refusal) e means gives = absurd gives

schedules_done : (before after : Schedules) (more : Bool) (new : List Step) (t : ScheduleTurn) → more ≡ false → ScheduleMeans before (Ok t) → GivesSchedule (Ok more) [] new before after (Ok t) → before.left ≡ codes "done" ++ 10 ∷ []
schedules_done before after more new t e means gives = elim means [
  | inl ends ↦ ends.line
  | inr read ↦ let answer = gives.answer in let turn = ap (λ (u : ScheduleTurn). u.more) read.2.turn in absurd cc
]

pub schedules_end : (before after : Schedules) (more : Bool) (new : List Step) (meant : Result ScheduleTurn RunFault) → more ≡ false → ScheduleMeans before meant → GivesSchedule (Ok more) [] new before after meant → before.left ≡ codes "done" ++ 10 ∷ []
schedules_end before after more new (Ok t) e means gives = schedules_done before after more new t e means gives
schedules_end before after more new (Err refusal) e means gives = absurd gives

-- the machine played it to its end
pub play_read : (setup : Setup) (Stands : List Step → Type 0) (before after : Schedules) (steps : List Step) → (read : IsScheduleRead before after steps) → IsDonePlayOf setup steps → Stands steps → IsPlayRead setup Stands before after
play_read setup Stands before after steps read done stands =
    let left : after.left ≡ read.rest = ap (λ (r : Schedules). r.left) read.reader in
    record {
      steps = steps;
      line = read.starts.line;
      is_line = record { spells = read.starts.spells; fit = read.fit; is_done_play = done };
      whole = subst (λ (t : List ℕ). before.left ≡ read.starts.line ++ 10 ∷ t) (sym left) read.starts.whole;
      reader = subst (λ (t : List ℕ). after ≡ behind before t false) (sym left) read.reader;
      stands = stands;
    }

-- the refusal, if there is one, is that of a line of schedules
abbrev pub IsBadPlay : Setup → Schedules → Refusal → Type 0
IsBadPlay setup before refusal = (fault : InputFault) × (refusal ≡ Input fault) × IsBadForPlays setup before.line before.left fault

-- it was played, and not to its end
pub play_refused : (setup : Setup) (before after : Schedules) (steps : List Step) (fault : PlayFault) (failure : Failure) → IsScheduleRead before after steps → ComesOut setup steps (Err fault) → failure ≡ Refused (Input (fault_of_play before.line fault))
    → IfRefused (IsBadPlay setup before) failure
play_refused setup before after steps fault failure read out e =
    subst (IfRefused (IsBadPlay setup before)) (sym e) (_, refl, not_played steps read.rest fault read.starts read.fit out refl)

-- the line has another form
form_refused : (setup : Setup) (before : Schedules) (refusal : RunFault) → (refusal ≡ Memory → ⊥) → ScheduleMeans before (Err refusal) → IfRefused (IsBadPlay setup before) (failure_of (fault_behind_test refusal))
form_refused setup before (BadRunLine line) other h = (_, refl, no_schedule (BadRunLine line) h refl)
form_refused setup before (WrongCount line want got) other h = absurd h
form_refused setup before (ValueRange line) other h = (_, refl, no_schedule (ValueRange line) h refl)
form_refused setup before (NoDone line) other h = (_, refl, no_schedule (NoDone line) h refl)
form_refused setup before (AfterDone line) other h = (_, refl, no_schedule (AfterDone line) h refl)
form_refused setup before Memory other h = absurd h

module _ (setup : Setup) (before after : Schedules) (new : List Step) (meant : Result ScheduleTurn RunFault) (means : ScheduleMeans before meant) where
  refused_form : (refusal : RunFault) → (refusal ≡ Memory → ⊥) → meant ≡ Err refusal → IfRefused (IsBadPlay setup before) (failure_of (fault_behind_test refusal))
  refused_form refusal other e = form_refused setup before refusal other (subst (ScheduleMeans before) e means)

  pub line_refused : (refusal : RunFault) → GivesSchedule (Err refusal) [] new before after meant → IfRefused (IsBadPlay setup before) (failure_of (fault_behind_test refusal))
  line_refused (BadRunLine line) gives = refused_form (BadRunLine line) (λ e. cc) gives.refusal
  line_refused (WrongCount line want got) gives = refused_form (WrongCount line want got) (λ e. cc) gives.refusal
  line_refused (ValueRange line) gives = refused_form (ValueRange line) (λ e. cc) gives.refusal
  line_refused (NoDone line) gives = refused_form (NoDone line) (λ e. cc) gives.refusal
  line_refused (AfterDone line) gives = refused_form (AfterDone line) (λ e. cc) gives.refusal
  line_refused Memory gives = tt
