-- A text means a test with plays behind it, or is refused.
use Rattle.std.proofs.Common.{◌≡◌, ◌∙◌, ◌⊎◌, ◌<◌, ℕ, zero, suc, ◌+◌, List, [], ◌∷◌, ◌++◌, map, length, Bool, true, false, Result, Ok, Err, refl, sym, ap, subst, inl, inr, arith, take, length-append}
use Rattle.std.specs.Prelude.{Some, IsFalse, codes, slice_get}
use Rattle.test_lang.specs.declared.step.Step.{Step}
use Rattle.test_lang.specs.declared.target.Target.{Target}
use Rattle.test_lang.specs.declared.target.Fault.{Fault}
use Rattle.test_lang.specs.declared.text.fault.TestFault.{TestFault}
use Rattle.test_lang.specs.declared.text.fault.TestFault.TheVariants.{BadHead, BadWords, BadLine, WordRange, TooManyThreads, TooManyOps, NoThread, NoEnd, Memory as MemoryOfTest}
use Rattle.test_lang.specs.Play.States.{State, opening}
use Rattle.test_lang.specs.Play.Machines.{is_enabled, after}
use Rattle.test_lang.specs.Play.Plays.{AreEnabled, after_all}
use Rattle.test_lang.specs.Program.{Program}
use Rattle.test_lang.specs.Text.Grammar.{StartsWithTest, test_lines}
use Rattle.test_lang.specs.Text.Reading.{reading as reading_of_test}
use Rattle.test_lang.specs.Text.Refusal.{TextMeans, IsRefused as IsRefusedTest}
use Rattle.test_lang.proofs.TextLemmas.Readings.{reading_means}
use Rattle.run_text.specs.declared.fault.RunFault.{RunFault}
use Rattle.run_text.specs.declared.fault.RunFault.TheVariants.{BadRunLine, WrongCount, ValueRange, NoDone, AfterDone, Memory}
use Rattle.run_text.specs.Items.{IsRefusedText, IsTextOf}
use Rattle.run_text.specs.ScheduleGrammar.{ScheduleMeans, StartsWithSchedule, AllStepsFit}
use Rattle.run_text.specs.ScheduleReader.{ScheduleTurn, schedule_turn}
use Rattle.run_text.proofs.ScheduleMeaning.{schedule_turn_means}
use Rattle.sim_core.specs.declared.schedule.PlayFault.{PlayFault}
use Rattle.sim_core.specs.declared.schedule.PlayFault.TheVariants.{NotEnabled, Unfinished}
use Rattle.sim_core.specs.Setup.{Setup, is_done_after, run_after}
use Rattle.sim_core.specs.Schedules.{ComesOut}
use Rattle.command_line.specs.declared.meaning.Settings.{Settings}
use Rattle.mtrace_app.specs.declared.refusal.InputFault.{InputFault}
use Rattle.mtrace_app.specs.Inputs.{ArePlayedRuns, AreRefusedPlays, IsBadForPlays, IsLineOfPlay, no_schedule, not_played, in_test, behind, schedules_behind, setup_of}
use Rattle.mtrace_app.proofs.OnePlay.{line_in_front}

-- ---- each schedule comes out in some way

-- The first step that isn't enabled.
record IsStuck (target : Target) (fault : Fault) (p : Program) (st : State) (steps : List Step) : Type 0 where
  place : ℕ
  step : Step
  at : slice_get steps place ≡ Some step
  before : AreEnabled target fault p st (take place steps)
  not_enabled : IsFalse (is_enabled target fault p (after_all target fault p st (take place steps)) step)

module _ (target : Target) (fault : Fault) (p : Program) where
  one_more : (st : State) (first : Step) (more : List Step) (enabled : Bool) → is_enabled target fault p st first ≡ enabled
      → AreEnabled target fault p (after target fault p st first) more ⊎ IsStuck target fault p (after target fault p st first) more
      → AreEnabled target fault p st (first ∷ more) ⊎ IsStuck target fault p st (first ∷ more)
  one_more st first more true e h = elim h [
    | inl all ↦ inl (e, all)
    | inr stuck ↦ inr (record { place = suc stuck.place; step = stuck.step; at = stuck.at; before = (e, stuck.before); not_enabled = stuck.not_enabled })
  ]
  one_more st first more false e h = inr (record { place = 0; step = first; at = refl; before = tt; not_enabled = e })

  all_or_stuck : (st : State) (steps : List Step) → AreEnabled target fault p st steps ⊎ IsStuck target fault p st steps
  all_or_stuck st [] = inl tt
  all_or_stuck st (first ∷ more) = one_more st first more (is_enabled target fault p st first) refl (all_or_stuck (after target fault p st first) more)

module _ (setup : Setup) (steps : List Step) where
  at_its_end : (done : Bool) → is_done_after setup steps ≡ done → AreEnabled setup.target setup.fault setup.test opening steps → (out : Result (Unit {0}) PlayFault) × ComesOut setup steps out
  at_its_end true e all = (Ok tt, record { is_play = all; done = e })
  at_its_end false e all = (Err Unfinished, record { is_play = all; not_done = e })

  comes_out : (out : Result (Unit {0}) PlayFault) × ComesOut setup steps out
  comes_out = elim (all_or_stuck setup.target setup.fault setup.test opening steps) [
    | inl all ↦ at_its_end (is_done_after setup steps) refl all
    | inr stuck ↦ (Err (NotEnabled stuck.place), record { before = stuck.before; step = stuck.step; at = stuck.at; not_enabled = stuck.not_enabled })
  ]

-- ---- a text of schedules means plays, or is refused

module _ (setup : Setup) where
  abbrev Means : ℕ → List ℕ → Type 0
  Means number text =
      ((plays : List (List Step)) × IsTextOf (IsLineOfPlay setup) plays text [])
      ⊎ ((fault : InputFault) × IsRefusedText (IsLineOfPlay setup) (IsBadForPlays setup) number text fault)

  bad_here : (number : ℕ) (text : List ℕ) (fault : InputFault) → IsBadForPlays setup number text fault → Means number text
  bad_here number text fault bad =
      inr (fault, record { items = []; lines = []; bytes = text; each = tt; whole = refl; bad = subst (λ (n : ℕ). IsBadForPlays setup n text fault) (omega arith) bad })

  form_bad : (number : ℕ) (text : List ℕ) (refusal : RunFault) → ScheduleMeans (schedules_behind number text) (Err refusal) → Means number text
  form_bad number text (BadRunLine line) h = bad_here number text _ (no_schedule (BadRunLine line) h refl)
  form_bad number text (WrongCount line want got) h = absurd h
  form_bad number text (ValueRange line) h = bad_here number text _ (no_schedule (ValueRange line) h refl)
  form_bad number text (NoDone line) h = bad_here number text _ (no_schedule (NoDone line) h refl)
  form_bad number text (AfterDone line) h = bad_here number text _ (no_schedule (AfterDone line) h refl)
  form_bad number text Memory h = absurd h

  ends_here : (number : ℕ) (text : List ℕ) → text ≡ codes "done" ++ 10 ∷ [] → Means number text
  ends_here number text e = inl ([], record { lines = []; each = tt; whole = e })

  -- a play in front of what is meant behind it
  play_in_front : (number : ℕ) (text rest : List ℕ) (steps : List Step) (line : List ℕ) → IsLineOfPlay setup steps line → text ≡ line ++ 10 ∷ rest → Means (number + 1) rest → Means number text
  play_in_front number text rest steps line is whole h = elim h [
    | inl good ↦
        let t = good.1 in
        inl (
          steps ∷ good.0,
          record {
            lines = line ∷ t.lines;
            each = (is, t.each);
            whole = whole ∙ ap (λ (r : List ℕ). line ++ 10 ∷ r) t.whole ∙ sym (line_in_front line (t.lines ++ codes "done" ∷ []) []);
          },
        )
    | inr bad ↦
        let t = bad.1 in
        inr (
          bad.0,
          record {
            items = steps ∷ t.items;
            lines = line ∷ t.lines;
            bytes = t.bytes;
            each = (is, t.each);
            whole = whole ∙ ap (λ (r : List ℕ). line ++ 10 ∷ r) t.whole ∙ sym (line_in_front line t.lines t.bytes);
            bad = subst (λ (n : ℕ). IsBadForPlays setup n t.bytes bad.0) (omega arith) t.bad;
          },
        )
  ]

  played_or_not : (number : ℕ) (text : List ℕ) (steps : List Step) (rest : List ℕ) → StartsWithSchedule text steps rest → AllStepsFit steps → Means (number + 1) rest → (out : Result (Unit {0}) PlayFault) → ComesOut setup steps out → Means number text
  played_or_not number text steps rest starts fit h (Ok done) out = play_in_front number text rest steps starts.line (record { spells = starts.spells; fit = fit; is_done_play = out }) starts.whole h
  played_or_not number text steps rest starts fit h (Err refusal) out = bad_here number text _ (not_played steps rest refusal starts fit out refl)

  shorter : (text line rest : List ℕ) (fuel : ℕ) → text ≡ line ++ 10 ∷ rest → length text < suc fuel → length rest < fuel
  shorter text line rest fuel whole few = let all = ap (length {A = ℕ}) whole ∙ length-append line (10 ∷ rest) in omega (arith, all, few)

  line_means : (fuel number : ℕ) (text : List ℕ) → length text < suc fuel → ((n : ℕ) (rest : List ℕ) → length rest < fuel → Means n rest) → (turn : Result ScheduleTurn RunFault) → ScheduleMeans (schedules_behind number text) turn → Means number text
  line_means fuel number text few more (Ok t) h = elim h [
    | inl ends ↦ ends_here number text ends.line
    | inr read ↦
        let starts = read.2.line in
        let out = comes_out setup read.0 in
        played_or_not number text read.0 read.1 starts read.2.fit (more (number + 1) read.1 (shorter text starts.line read.1 fuel starts.whole few)) out.0 out.1
  ]
  line_means fuel number text few more (Err refusal) h = form_bad number text refusal h

  means_by : (fuel number : ℕ) (text : List ℕ) → length text < fuel → Means number text
  means_by zero number text few = absurd (omega (arith, few))
  means_by (suc fuel) number text few = line_means fuel number text few (means_by fuel) (schedule_turn (schedules_behind number text)) (schedule_turn_means (schedules_behind number text) refl)

-- ---- behind a test

module _ (s : Settings) (bytes : List ℕ) where
  abbrev MeansSomething : Type 0
  MeansSomething = ((p : Program) × (runs : List (List ℕ)) × ArePlayedRuns s bytes p runs) ⊎ ((fault : InputFault) × AreRefusedPlays s bytes fault)

  -- want of memory refuses no text
  named_in_test : (refusal : TestFault) → IsRefusedTest bytes refusal → (fault : InputFault) × AreRefusedPlays s bytes fault
  named_in_test (BadHead line) h = (_, in_test (BadHead line) h refl)
  named_in_test (BadWords line) h = (_, in_test (BadWords line) h refl)
  named_in_test (BadLine line) h = (_, in_test (BadLine line) h refl)
  named_in_test (WordRange line) h = (_, in_test (WordRange line) h refl)
  named_in_test (TooManyThreads line) h = (_, in_test (TooManyThreads line) h refl)
  named_in_test (TooManyOps line) h = (_, in_test (TooManyOps line) h refl)
  named_in_test (NoThread line) h = (_, in_test (NoThread line) h refl)
  named_in_test (NoEnd line) h = (_, in_test (NoEnd line) h refl)
  named_in_test MemoryOfTest h = let number = h.number in absurd (omega (arith, number))

  behind_a_test : (p : Program) (rest : List ℕ) → StartsWithTest bytes p rest → Means (setup_of s p) (length (test_lines p) + 1) rest → MeansSomething
  behind_a_test p rest starts h = elim h [
    | inl good ↦ inl (p, map (run_after (setup_of s p)) good.0, record { schedules = good.0; text = record { rest = rest; test = starts; text = good.1 }; played = refl })
    | inr bad ↦ inr (bad.0, behind p rest bad.0 starts bad.1 refl)
  ]

  by_test : (read : Result Program TestFault) → TextMeans bytes read → MeansSomething
  by_test (Ok p) h = behind_a_test p h.0 h.1 (means_by (setup_of s p) (suc (length h.0)) (length (test_lines p) + 1) h.0 (omega arith))
  by_test (Err refusal) h = inr (named_in_test refusal h)

  pub some_meaning_of_plays : ((p : Program) × (runs : List (List ℕ)) × ArePlayedRuns s bytes p runs) ⊎ ((fault : InputFault) × AreRefusedPlays s bytes fault)
  some_meaning_of_plays = by_test (reading_of_test bytes) (reading_means bytes)
