-- Schedules that are read and played one after another, and their outcomes, which are counted as far as the limits go.
use Rattle.std.proofs.Common.{◌≡◌, ◌∙◌, ℕ, ◌+◌, ◌<◌, ◌≤◌, List, [], ◌∷◌, ◌++◌, Bool, true, false, map, length, refl, sym, ap, subst, arith, length-append, append_assoc, append-nil}
use Rattle.std.specs.Prelude.{codes}
use Rattle.std.proofs.lemmas.List.{map-append, length-map}
use Rattle.tally.specs.declared.outcome.Outcome.{Outcome}
use Rattle.tally.specs.Counting.{Counting, HasCounted}
use Rattle.tally.specs.Tallies.{IsTally, total_of}
use Rattle.test_lang.specs.declared.step.Step.{Step}
use Rattle.test_lang.specs.Program.{Program}
use Rattle.test_lang.specs.Runs.{IsRunOf}
use Rattle.test_lang.specs.Text.Line.{closed}
use Rattle.test_lang.specs.Values.{load_count}
use Rattle.test_lang.proofs.TextLemmas.Lines.{closed-append}
use Rattle.run_text.specs.Items.{AreLinesOf, IsRefusedText, IsTextOf}
use Rattle.run_text.specs.Runs.{AreRunsOf}
use Rattle.run_text.specs.ScheduleReader.{Schedules}
use Rattle.signature_plan.specs.Outcomes.{outcome_of}
use Rattle.sim_core.specs.Setup.{Setup, run_after}
use Rattle.mtrace_app.specs.declared.failure.Failure.{Failure}
use Rattle.mtrace_app.specs.declared.failure.Failure.TheVariants.{Refused, Memory}
use Rattle.mtrace_app.specs.declared.refusal.InputFault.{InputFault}
use Rattle.mtrace_app.specs.declared.refusal.Refusal.TheVariants.{Input}
use Rattle.mtrace_app.specs.Failures.{IfRefused}
use Rattle.mtrace_app.specs.Counted.{AreCountedWithin, RefusesBehind}
use Rattle.mtrace_app.specs.Inputs.{IsBadForPlays, IsLineOfPlay}
use Rattle.mtrace_app.specs.Limits.{FitLimits}
use Rattle.mtrace_app.specs.Played.{IsPlayRead, PlaysOn}
use Rattle.mtrace_app.proofs.Meanings.{tallied_mean}
use Rattle.mtrace_app.proofs.RunsSoFar.{fewer_fit, runs-push}

lines-push : {Item : Type 0} (IsLineOf : Item → List ℕ → Type 0) (items : List Item) (lines : List (List ℕ)) (item : Item) (line : List ℕ) → AreLinesOf IsLineOf items lines → IsLineOf item line → AreLinesOf IsLineOf (items ++ item ∷ []) (lines ++ line ∷ [])
lines-push IsLineOf [] [] item line each is = (is, tt)
lines-push IsLineOf [] (other ∷ lines) item line each is = absurd each
lines-push IsLineOf (first ∷ items) [] item line each is = absurd each
lines-push IsLineOf (first ∷ items) (other ∷ lines) item line each is = (each.0, lines-push IsLineOf items lines item line each.1 is)

-- Some schedules were read and played, so many, and the lines that are left stand behind theirs. The counter has counted their outcomes, as far as the limits go.
pub record ArePlayed (setup : Setup) (start now : Schedules) (count : ℕ) (counter : Counting) : Type 0 where
  pub schedules : List (List Step)
  pub lines : List (List ℕ)
  pub each : AreLinesOf (IsLineOfPlay setup) schedules lines
  pub whole : start.left ≡ closed lines ++ now.left
  pub line : now.line ≡ start.line + length schedules
  pub unread : now.is_done ≡ false
  pub runs : AreRunsOf (load_count setup.test) (map (run_after setup) schedules)
  pub number : count ≡ length schedules
  pub shorter : count + length now.left ≤ length start.left
  pub counted : FitLimits count (load_count setup.test) → HasCounted (map (outcome_of setup.test) (map (run_after setup) schedules)) counter
  pub total : FitLimits count (load_count setup.test) → total_of counter.pairs ≡ count
  pub most : total_of counter.pairs ≤ count

pub played-none : (setup : Setup) (start now : Schedules) (counter : Counting) → now ≡ start → start.is_done ≡ false → HasCounted [] counter → counter.pairs ≡ [] → ArePlayed setup start now 0 counter
played-none setup start now counter same unread none empty =
    let at_start : ArePlayed setup start start 0 counter = record {
      schedules = [];
      lines = [];
      each = tt;
      whole = refl;
      line = omega arith;
      unread = unread;
      runs = tt;
      number = refl;
      shorter = omega arith;
      counted = λ _. none;
      total = λ _. ap total_of empty;
      most = omega (arith, ap total_of empty);
    } in
    subst (λ (r : Schedules). ArePlayed setup start r 0 counter) (sym same) at_start

-- a schedule was read and played, where a call says that there was one
pub plays_on : (setup : Setup) (Stands : List Step → Type 0) (more : Bool) (before after : Schedules) → more ≡ true → PlaysOn setup Stands more before after → IsPlayRead setup Stands before after
plays_on setup Stands true before after e h = h
plays_on setup Stands false before after e h = absurd cc

-- none was left, where a call says so
pub plays_end : (setup : Setup) (Stands : List Step → Type 0) (more : Bool) (before after : Schedules) → more ≡ false → PlaysOn setup Stands more before after → before.left ≡ codes "done" ++ 10 ∷ []
plays_end setup Stands true before after e h = absurd cc
plays_end setup Stands false before after e h = h

-- one more schedule was read and played, and its outcome was counted where it is within the limits
pub played-push : (setup : Setup) (Stands : List Step → Type 0) (start before after : Schedules) (count : ℕ) (old new : Counting) (run : List ℕ) → ArePlayed setup start before count old → (read : IsPlayRead setup Stands before after)
    → run ≡ run_after setup read.steps → IsRunOf (load_count setup.test) run
    → (FitLimits (count + 1) (load_count setup.test) → (outcomes : List Outcome) → HasCounted outcomes old → HasCounted (outcomes ++ outcome_of setup.test run ∷ []) new)
    → (FitLimits (count + 1) (load_count setup.test) → total_of new.pairs ≡ total_of old.pairs + 1)
    → total_of new.pairs ≤ total_of old.pairs + 1
    → ArePlayed setup start after (count + 1) new
played-push setup Stands start before after count old new run h read is is_run counts totals most =
    let p = setup.test in
    let runs = map (run_after setup) h.schedules in
    let more : map (run_after setup) (h.schedules ++ read.steps ∷ []) ≡ runs ++ run ∷ [] =
    map-append (run_after setup) h.schedules (read.steps ∷ []) ∙ ap (λ (r : List ℕ). runs ++ r ∷ []) (sym is) in
    let lines_whole : start.left ≡ closed (h.lines ++ read.line ∷ []) ++ after.left =
    h.whole ∙ ap (λ (t : List ℕ). closed h.lines ++ t) read.whole
    ∙ sym (append_assoc (closed h.lines) (closed (read.line ∷ [])) after.left ∙ ap (λ (t : List ℕ). closed h.lines ++ t) (append_assoc read.line (10 ∷ []) after.left))
    ∙ ap (λ (t : List ℕ). t ++ after.left) (sym (closed-append h.lines (read.line ∷ []))) in
    let shorter = ap (length {A = ℕ}) read.whole ∙ length-append read.line (10 ∷ after.left) in
    record {
      schedules = h.schedules ++ read.steps ∷ [];
      lines = h.lines ++ read.line ∷ [];
      each = lines-push (IsLineOfPlay setup) h.schedules h.lines read.steps read.line h.each read.is_line;
      whole = lines_whole;
      line =
          let next = ap (λ (r : Schedules). r.line) read.reader in
          let here = h.line in
          omega (arith, next, here, length-append h.schedules (read.steps ∷ []));
      unread = ap (λ (r : Schedules). r.is_done) read.reader;
      runs = subst (AreRunsOf (load_count p)) (sym more) (runs-push (load_count p) runs run h.runs is_run);
      number = omega (arith, h.number, length-append h.schedules (read.steps ∷ []));
      shorter = let few = h.shorter in omega (arith, few, shorter);
      counted = λ fit. subst (λ (rs : List (List ℕ)). HasCounted (map (outcome_of p) rs) new) (sym more)
          (subst (λ (outcomes : List Outcome). HasCounted outcomes new) (sym (map-append (outcome_of p) runs (run ∷ [])))
          (counts fit (map (outcome_of p) runs) (h.counted (fewer_fit count (load_count p) fit))));
      total = λ fit. totals fit ∙ ap (λ (n : ℕ). n + 1) (h.total (fewer_fit count (load_count p) fit));
      most = omega (arith, most, h.most);
    }

-- all were read and played
pub played-text : (setup : Setup) (start now : Schedules) (count : ℕ) (counter : Counting) → (h : ArePlayed setup start now count counter) → now.left ≡ codes "done" ++ 10 ∷ [] → IsTextOf (IsLineOfPlay setup) h.schedules start.left []
played-text setup start now count counter h end = record {
  lines = h.lines;
  each = h.each;
  whole =
      h.whole ∙ ap (λ (t : List ℕ). closed h.lines ++ t) end ∙ sym (closed-append h.lines (codes "done" ∷ []))
      ∙ sym (append-nil (closed (h.lines ++ codes "done" ∷ [])));
}

pub played-counted : (setup : Setup) (start now : Schedules) (count : ℕ) (counter : Counting) (pairs : List (Outcome × ℕ)) → (h : ArePlayed setup start now count counter) → ((outcomes : List Outcome) → HasCounted outcomes counter → IsTally outcomes pairs) → pairs ≡ counter.pairs
    → AreCountedWithin setup.test (map (run_after setup) h.schedules) count pairs
played-counted setup start now count counter pairs h tallies same =
    let p = setup.test in
    let runs = map (run_after setup) h.schedules in
    let number : count ≡ length runs = h.number ∙ sym (length-map h.schedules (run_after setup)) in
    record {
      number = number;
      counted = λ fit.
          let counts = tallies (map (outcome_of p) runs) (h.counted fit) in
          record {
            number = number;
            counts = counts;
            sum = ap total_of same ∙ h.total fit ∙ number;
            meant = tallied_mean p runs pairs h.runs counts;
          };
    }

-- a line is refused
pub played-refused : (setup : Setup) (start now : Schedules) (count : ℕ) (counter : Counting) (fault : InputFault) → ArePlayed setup start now count counter → IsBadForPlays setup now.line now.left fault → IsRefusedText (IsLineOfPlay setup) (IsBadForPlays setup) start.line start.left fault
played-refused setup start now count counter fault h bad = record {
  items = h.schedules;
  lines = h.lines;
  bytes = now.left;
  each = h.each;
  whole = h.whole;
  bad = subst (λ (n : ℕ). IsBadForPlays setup n now.left fault) h.line bad;
}

pub refused_by : (setup other : Setup) (start now : Schedules) (count : ℕ) (counter : Counting) (failure : Failure) → other ≡ setup → ArePlayed setup start now count counter
    → IfRefused (λ refusal. (fault : InputFault) × (refusal ≡ Input fault) × IsBadForPlays other now.line now.left fault) failure → IfRefused (RefusesBehind (IsLineOfPlay setup) (IsBadForPlays setup) start.line start.left) failure
refused_by setup other start now count counter (Refused refusal) same h bad =
    (bad.0, bad.1, played-refused setup start now count counter bad.0 h (subst (λ (s : Setup). IsBadForPlays s now.line now.left bad.0) same bad.2))
refused_by setup other start now count counter Memory same h bad = tt

-- a play that was read takes a byte at least
pub read_shorter : (setup : Setup) (Stands : List Step → Type 0) (before after : Schedules) → IsPlayRead setup Stands before after → length after.left < length before.left
read_shorter setup Stands before after read = let all = ap (length {A = ℕ}) read.whole ∙ length-append read.line (10 ∷ after.left) in omega (arith, all)

-- what was counted of a test was counted of the same one
pub counts_at : (p q : Program) → p ≡ q → (count : ℕ) (run : List ℕ) (old new : Counting)
    → (FitLimits (count + 1) (load_count q) → (outcomes : List Outcome) → HasCounted outcomes old → HasCounted (outcomes ++ outcome_of q run ∷ []) new)
    → FitLimits (count + 1) (load_count p) → (outcomes : List Outcome) → HasCounted outcomes old → HasCounted (outcomes ++ outcome_of p run ∷ []) new
counts_at p q same count run old new h =
    subst (λ (t : Program). FitLimits (count + 1) (load_count t) → (outcomes : List Outcome) → HasCounted outcomes old → HasCounted (outcomes ++ outcome_of t run ∷ []) new) (sym same) h

pub total_at : (p q : Program) → p ≡ q → (count : ℕ) (old new : Counting) → (FitLimits (count + 1) (load_count q) → total_of new.pairs ≡ total_of old.pairs + 1) → FitLimits (count + 1) (load_count p) → total_of new.pairs ≡ total_of old.pairs + 1
total_at p q same count old new h = subst (λ (t : Program). FitLimits (count + 1) (load_count t) → total_of new.pairs ≡ total_of old.pairs + 1) (sym same) h
