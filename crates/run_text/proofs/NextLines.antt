-- What a call gives, by what the next line is.
use Rattle.std.proofs.Common.{◌≡◌, ℕ, List, [], ◌∷◌, Bool, true, false, refl, ap, ◌∙◌, sym, subst, cond, Option, Some, None, Result, Ok, Err}
use Rattle.std.specs.Prelude.{codes}
use Rattle.std.specs.Str.{bytes_eq}
use Rattle.std.proofs.lemmas.List.{append-nil}
use Rattle.test_lang.specs.declared.step.Step.{Step}
use Rattle.test_lang.specs.Text.Line.{first_line}
use Rattle.run_text.specs.declared.fault.RunFault.{RunFault}
use Rattle.run_text.specs.declared.fault.RunFault.TheVariants.{BadRunLine, WrongCount, ValueRange, NoDone, AfterDone, Memory}
use Rattle.run_text.specs.NextLine.{end_behind, next_from, next_line}
use Rattle.run_text.specs.RunLine.{run_of, Refuses, Appends}
use Rattle.run_text.specs.Reader.{Reader, Turn, behind, end_at, run_at, line_at, turn, Gives}
use Rattle.run_text.specs.Steps.{schedule_of}
use Rattle.run_text.specs.ReadSteps.{AppendsSteps}
use Rattle.run_text.specs.ScheduleReader.{Schedules, behind as behind_schedule, schedule_at, turn_at, schedule_turn, GivesSchedule}
use Rattle.run_text.proofs.Meaning.{not_ended}
use Rattle.run_text.proofs.ScheduleMeaning.{schedule_not_ended}

refuses-of : {X : Type 0} (fault : RunFault) (read : Result X RunFault) → read ≡ Err fault → Refuses fault read
refuses-of Memory read e = tt
refuses-of (BadRunLine line) read e = e
refuses-of (WrongCount line want got) read e = e
refuses-of (ValueRange line) read e = e
refuses-of (NoDone line) read e = e
refuses-of (AfterDone line) read e = e

-- a refusal is handed on
refuses-on : {X Y : Type 0} (fault : RunFault) (read : Result X RunFault) (on : Result X RunFault → Result Y RunFault) → ((f : RunFault) → on (Err f) ≡ Err f) → Refuses fault read → Refuses fault (on read)
refuses-on Memory read on same h = tt
refuses-on (BadRunLine line) read on same h = ap on h ∙ same (BadRunLine line)
refuses-on (WrongCount line want got) read on same h = ap on h ∙ same (WrongCount line want got)
refuses-on (ValueRange line) read on same h = ap on h ∙ same (ValueRange line)
refuses-on (NoDone line) read on same h = ap on h ∙ same (NoDone line)
refuses-on (AfterDone line) read on same h = ap on h ∙ same (AfterDone line)

-- Run lines.
module _ (r : Reader) where
  abbrev by_next : Result (Option (List ℕ × List ℕ)) RunFault → Result Turn RunFault
  by_next (Ok None) = Ok (record { more = false; values = []; reader = behind r [] true })
  by_next (Ok (Some l)) = run_at r l.1 (run_of r.line r.loads l.0)
  by_next (Err fault) = Err fault

  end_at-next : (rest : List ℕ) → end_at r rest ≡ by_next (end_behind r.line rest)
  end_at-next [] = refl
  end_at-next (c ∷ cs) = refl

  line_at-next : (found : Option (List ℕ × List ℕ)) → line_at r found ≡ by_next (next_from r.line found)
  line_at-next None = refl
  line_at-next (Some l) = go (bytes_eq l.0 (codes "done"))
    where
      go : (b : Bool) → cond b (end_at r l.1) (run_at r l.1 (run_of r.line r.loads l.0)) ≡ by_next (cond b (end_behind r.line l.1) (Ok (Some l)))
      go true = end_at-next l.1
      go false = refl

  turn-next : r.is_done ≡ false → turn r ≡ by_next (next_line r.line r.left)
  turn-next e = not_ended r e ∙ line_at-next (first_line r.left)

  module _ (after : Reader) (old new : List ℕ) (not_done : r.is_done ≡ false) where
    pub gives-refused : (fault : RunFault) → next_line r.line r.left ≡ Err fault → new ≡ old → after ≡ r → Gives (Err fault) old new r after (turn r)
    gives-refused fault e kept stays = record { refusal = refuses-of fault (turn r) (turn-next not_done ∙ ap by_next e); values_kept = kept; reader_kept = stays }

    pub gives-end : next_line r.line r.left ≡ Ok None → new ≡ old → after ≡ behind r [] true → Gives (Ok false) old new r after (turn r)
    gives-end e kept moved =
        subst (Gives (Ok false) old new r after) (sym (turn-next not_done ∙ ap by_next e))
        (record { answer = refl; values_added = kept ∙ sym (append-nil old); reader_moved = moved })

    module _ (line rest : List ℕ) (e : next_line r.line r.left ≡ Ok (Some (line, rest))) where
      turn-line : turn r ≡ run_at r rest (run_of r.line r.loads line)
      turn-line = turn-next not_done ∙ ap by_next e

      run_given : (read : Result (List ℕ) RunFault) → Appends {X = Unit {0}} old (Ok tt) new read → after ≡ behind r rest false → Gives (Ok true) old new r after (run_at r rest read)
      run_given (Ok vs) h moved = record { answer = refl; values_added = h; reader_moved = moved }
      run_given (Err fault) h moved = absurd h

      pub gives-run : Appends {X = Unit {0}} old (Ok tt) new (run_of r.line r.loads line) → after ≡ behind r rest false → Gives (Ok true) old new r after (turn r)
      gives-run h moved = subst (Gives (Ok true) old new r after) (sym turn-line) (run_given (run_of r.line r.loads line) h moved)

      pub gives-run_refused : (fault : RunFault) → Appends {X = Unit {0}} old (Err fault) new (run_of r.line r.loads line) → after ≡ r → Gives (Err fault) old new r after (turn r)
      gives-run_refused fault h stays = record {
        refusal = subst (Refuses fault) (sym turn-line) (refuses-on fault (run_of r.line r.loads line) (run_at r rest) (λ f. refl) h.1);
        values_kept = h.0;
        reader_kept = stays;
      }

-- Schedule lines.
module _ (r after : Schedules) (old new : List Step) (not_done : r.is_done ≡ false) where
  pub gives-schedule_stop : (fault : RunFault) → next_line r.line r.left ≡ Err fault → new ≡ old → after ≡ r → GivesSchedule (Err fault) old new r after (schedule_turn r)
  gives-schedule_stop fault e kept stays = record { refusal = refuses-of fault (schedule_turn r) (schedule_not_ended r not_done ∙ ap (turn_at r) e); steps_kept = kept; reader_kept = stays }

  pub gives-schedule_end : next_line r.line r.left ≡ Ok None → new ≡ old → after ≡ behind_schedule r [] true → GivesSchedule (Ok false) old new r after (schedule_turn r)
  gives-schedule_end e kept moved =
      subst (GivesSchedule (Ok false) old new r after) (sym (schedule_not_ended r not_done ∙ ap (turn_at r) e))
      (record { answer = refl; steps_added = kept ∙ sym (append-nil old); reader_moved = moved })

  module _ (line rest : List ℕ) (e : next_line r.line r.left ≡ Ok (Some (line, rest))) where
    schedule_turn-line : schedule_turn r ≡ schedule_at r rest (schedule_of r.line line)
    schedule_turn-line = schedule_not_ended r not_done ∙ ap (turn_at r) e

    schedule_given : (read : Result (List Step) RunFault) → AppendsSteps {X = Unit {0}} old (Ok tt) new read → after ≡ behind_schedule r rest false
        → GivesSchedule (Ok true) old new r after (schedule_at r rest read)
    schedule_given (Ok steps) h moved = record { answer = refl; steps_added = h; reader_moved = moved }
    schedule_given (Err fault) h moved = absurd h

    pub gives-schedule : AppendsSteps {X = Unit {0}} old (Ok tt) new (schedule_of r.line line) → after ≡ behind_schedule r rest false → GivesSchedule (Ok true) old new r after (schedule_turn r)
    gives-schedule h moved = subst (GivesSchedule (Ok true) old new r after) (sym schedule_turn-line) (schedule_given (schedule_of r.line line) h moved)

    pub gives-schedule_refused : (fault : RunFault) → AppendsSteps {X = Unit {0}} old (Err fault) new (schedule_of r.line line) → after ≡ r → GivesSchedule (Err fault) old new r after (schedule_turn r)
    gives-schedule_refused fault h stays = record {
      refusal = subst (Refuses fault) (sym schedule_turn-line) (refuses-on fault (schedule_of r.line line) (schedule_at r rest) (λ f. refl) h.1);
      steps_kept = h.0;
      reader_kept = stays;
    }
