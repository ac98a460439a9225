-- What a call tells of reading all lines.
use Rattle.std.proofs.Common.{◌≡◌, ◌⊎◌, List, ℕ, Bool, true, false, refl, sym, subst, Result, Ok, Err, inl, inr}
use Rattle.run_text.specs.declared.fault.RunFault.{RunFault}
use Rattle.run_text.specs.declared.fault.RunFault.TheVariants.{BadRunLine, WrongCount, ValueRange, NoDone, AfterDone, Memory}
use Rattle.run_text.specs.RunLine.{Refuses}
use Rattle.run_text.specs.Reader.{Reader, Turn, turn, Takes, Gives}
use Rattle.run_text.specs.Runs.{reading, IsRunRead, ReadsOn}
use Rattle.run_text.proofs.Turns.{turn-run, run-shorter}
use Rattle.run_text.proofs.Runs.{reading-run, reading-done, reading-refused}

module _ (before after : Reader) (old new : List ℕ) where
  call-run : (t : Turn) → turn before ≡ Ok t → Takes t true old new after → IsRunRead before after old new
  call-run t e h =
      let more : t.more ≡ true = sym h.answer in
      let next = turn-run before t e more in
      subst (λ (r : Reader). IsRunRead before r old new) (sym h.reader_moved) (record {
        run = t.values;
        is_run = next.run;
        values = h.values_added;
        reader = next.reader;
        shorter = run-shorter before t next;
        in_all = reading-run before t e more;
      })

  call-refused : (fault : RunFault) → Refuses fault (turn before) → (fault ≡ Memory) ⊎ (reading before ≡ Err fault)
  call-refused Memory h = inl refl
  call-refused (BadRunLine line) h = inr (reading-refused before (BadRunLine line) h)
  call-refused (WrongCount line want got) h = inr (reading-refused before (WrongCount line want got) h)
  call-refused (ValueRange line) h = inr (reading-refused before (ValueRange line) h)
  call-refused (NoDone line) h = inr (reading-refused before (NoDone line) h)
  call-refused (AfterDone line) h = inr (reading-refused before (AfterDone line) h)

  call : (result : Result Bool RunFault) (o : Result Turn RunFault) → turn before ≡ o → Gives result old new before after o → ReadsOn result old new before after
  call (Ok true) (Ok t) e h = call-run t e h
  call (Ok false) (Ok t) e h = reading-done before t e (sym h.answer)
  call (Ok true) (Err fault) e h = absurd h
  call (Ok false) (Err fault) e h = absurd h
  call (Err fault) o e h = call-refused fault (subst (Refuses fault) (sym e) h.refusal)

  pub call-reads_on : (result : Result Bool RunFault) → Gives result old new before after (turn before) → ReadsOn result old new before after
  call-reads_on result h = call result (turn before) refl h
