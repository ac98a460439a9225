-- A text of a test with schedules behind it means one thing: one test and one list of plays, or a refusal.
use Rattle.std.proofs.Common.{◌≡◌, ◌∙◌, ℕ, ◌+◌, List, [], ◌∷◌, ◌++◌, map, length, true, false, Ok, Err, refl, sym, ap, subst, inl, inr, arith}
use Rattle.std.specs.Prelude.{Some, codes}
use Rattle.std.proofs.lemmas.List.{append-nil, append_assoc}
use Rattle.test_lang.specs.declared.step.Step.{Step}
use Rattle.test_lang.specs.Program.{Program}
use Rattle.test_lang.specs.Text.Grammar.{test_lines}
use Rattle.test_lang.specs.Text.Line.{closed}
use Rattle.test_lang.proofs.TextLemmas.Lines.{closed-append}
use Rattle.run_text.specs.declared.fault.RunFault.{RunFault}
use Rattle.run_text.specs.Items.{AreLinesOf, IsRefusedText, IsTextOf}
use Rattle.run_text.specs.ScheduleGrammar.{AllStepsFit, StartsWithSchedule, ScheduleMeans}
use Rattle.run_text.specs.ScheduleReader.{ScheduleTurn, behind as behind_line, schedule_turn}
use Rattle.run_text.proofs.ScheduleMeaning.{means_schedule_turn}
use Rattle.sim_core.specs.Setup.{Setup, run_after}
use Rattle.sim_core.specs.Schedules.{ComesOut}
use Rattle.command_line.specs.declared.meaning.Settings.{Settings}
use Rattle.mtrace_app.specs.declared.refusal.InputFault.{InputFault}
use Rattle.mtrace_app.specs.Inputs.{ArePlayedRuns, AreRefusedPlays, IsBadForPlays, IsLineOfPlay, no_schedule, not_played, in_test, behind, fault_behind_test, fault_in_test, fault_of_play, schedules_behind, setup_of}
use Rattle.mtrace_app.proofs.OneMeaning.{err_one, not_a_test, ok_one, same_refusal_of_test, same_rest, same_test, some_one}
use Rattle.mtrace_app.proofs.OneOutcome.{done_not_refused, one_refusal_of_play}

-- ---- one line

module _ (number : ℕ) (bytes : List ℕ) where
  turn_of_schedule : (steps : List Step) (rest : List ℕ) → StartsWithSchedule bytes steps rest → AllStepsFit steps → schedule_turn (schedules_behind number bytes) ≡ Ok (record { more = true; steps = steps; reader = behind_line (schedules_behind number bytes) rest false })
  turn_of_schedule steps rest starts fit = means_schedule_turn (schedules_behind number bytes) _ refl (inr (steps, rest, record { line = starts; fit = fit; turn = refl }))

  turn_of_end : bytes ≡ codes "done" ++ 10 ∷ [] → schedule_turn (schedules_behind number bytes) ≡ Ok (record { more = false; steps = []; reader = behind_line (schedules_behind number bytes) [] true })
  turn_of_end e = means_schedule_turn (schedules_behind number bytes) _ refl (inl (record { line = e; turn = refl }))

  same_turn : (t u : ScheduleTurn) → schedule_turn (schedules_behind number bytes) ≡ Ok t → schedule_turn (schedules_behind number bytes) ≡ Ok u → t ≡ u
  same_turn t u a b = ok_one t u (sym a ∙ b)

  module _ (steps : List Step) (rest : List ℕ) (starts : StartsWithSchedule bytes steps rest) (fit : AllStepsFit steps) where
    -- a schedule line is one, has one list of steps, and one rest behind it
    not_the_end : bytes ≡ codes "done" ++ 10 ∷ [] → ⊥
    not_the_end e = let more = ap (λ (t : ScheduleTurn). t.more) (same_turn _ _ (turn_of_schedule steps rest starts fit) (turn_of_end e)) in cc

    same_line : (others : List Step) (left : List ℕ) → StartsWithSchedule bytes others left → AllStepsFit others → (steps ≡ others) × (rest ≡ left)
    same_line others left there also =
        let same = same_turn _ _ (turn_of_schedule steps rest starts fit) (turn_of_schedule others left there also) in
        (ap (λ (t : ScheduleTurn). t.steps) same, ap (λ (t : ScheduleTurn). t.reader.left) same)

    not_refused : (refusal : RunFault) → ScheduleMeans (schedules_behind number bytes) (Err refusal) → ⊥
    not_refused refusal h = let e = sym (turn_of_schedule steps rest starts fit) ∙ means_schedule_turn (schedules_behind number bytes) (Err refusal) refl h in cc

-- a line that can be played isn't bad, and the end isn't either
module _ (setup : Setup) (number : ℕ) (bytes : List ℕ) where
  play_not_bad : (steps : List Step) (line rest : List ℕ) (fault : InputFault) → IsLineOfPlay setup steps line → bytes ≡ line ++ 10 ∷ rest → IsBadForPlays setup number bytes fault → ⊥
  play_not_bad steps line rest fault is whole (no_schedule refusal h named) = not_refused number bytes steps rest (record { line = line; spells = is.spells; whole = whole }) is.fit refusal h
  play_not_bad steps line rest fault is whole (not_played others left refusal starts fit out named) =
      let same = (same_line number bytes steps rest (record { line = line; spells = is.spells; whole = whole }) is.fit others left starts fit).0 in
      done_not_refused setup steps refusal is.is_done_play (subst (λ (xs : List Step). ComesOut setup xs (Err refusal)) (sym same) out)

  end_not_bad : (fault : InputFault) → bytes ≡ codes "done" ++ 10 ∷ [] → IsBadForPlays setup number bytes fault → ⊥
  end_not_bad fault e (no_schedule refusal h named) = let bad = sym (turn_of_end number bytes e) ∙ means_schedule_turn (schedules_behind number bytes) (Err refusal) refl h in cc
  end_not_bad fault e (not_played others left refusal starts fit out named) = not_the_end number bytes others left starts fit e

  one_bad : (fault other : InputFault) → IsBadForPlays setup number bytes fault → IsBadForPlays setup number bytes other → fault ≡ other
  one_bad fault other (no_schedule r h named) (no_schedule t k also) =
      let same = err_one r t (sym (means_schedule_turn (schedules_behind number bytes) (Err r) refl h) ∙ means_schedule_turn (schedules_behind number bytes) (Err t) refl k) in
      some_one fault other (sym named ∙ ap fault_behind_test same ∙ also)
  one_bad fault other (no_schedule r h named) (not_played steps rest t starts fit out also) = absurd (not_refused number bytes steps rest starts fit r h)
  one_bad fault other (not_played steps rest r starts fit out named) (no_schedule t k also) = absurd (not_refused number bytes steps rest starts fit t k)
  one_bad fault other (not_played steps rest r starts fit out named) (not_played others left t there also_fit comes also) =
      let same = (same_line number bytes steps rest starts fit others left there also_fit).0 in
      let refusals = one_refusal_of_play setup steps r t out (subst (λ (xs : List Step). ComesOut setup xs (Err t)) (sym same) comes) in
      named ∙ ap (fault_of_play number) refusals ∙ sym also

-- ---- a whole text

-- the text that stands before `done`, or before a bad line
pub line_in_front : (line : List ℕ) (lines : List (List ℕ)) (back : List ℕ) → closed (line ∷ lines) ++ back ≡ line ++ 10 ∷ (closed lines ++ back)
line_in_front line lines back = append_assoc line (10 ∷ closed lines) back

module _ (setup : Setup) where
  starts_with : (steps : List Step) (line : List ℕ) (lines : List (List ℕ)) (text back : List ℕ) → IsLineOfPlay setup steps line → text ≡ closed (line ∷ lines) ++ back → StartsWithSchedule text steps (closed lines ++ back)
  starts_with steps line lines text back is whole = record { line = line; spells = is.spells; whole = whole ∙ line_in_front line lines back }

  -- lines of plays up to `done`, in two ways
  same_plays : (number : ℕ) (text : List ℕ) (plays others : List (List Step)) (lines those : List (List ℕ)) → AreLinesOf (IsLineOfPlay setup) plays lines → AreLinesOf (IsLineOfPlay setup) others those → text ≡ closed lines ++ (codes "done" ++ 10 ∷ [])
      → text ≡ closed those ++ (codes "done" ++ 10 ∷ []) → plays ≡ others
  same_plays number text [] [] [] [] h k a b = refl
  same_plays number text [] [] [] (line ∷ those) h k a b = absurd k
  same_plays number text [] [] (line ∷ lines) those h k a b = absurd h
  same_plays number text [] (steps ∷ others) (line ∷ lines) those h k a b = absurd h
  same_plays number text [] (steps ∷ others) [] [] h k a b = absurd k
  same_plays number text [] (steps ∷ others) [] (line ∷ those) h k a b = absurd (not_the_end number text steps _ (starts_with steps line those text _ k.0 b) k.0.fit a)
  same_plays number text (steps ∷ plays) others [] those h k a b = absurd h
  same_plays number text (steps ∷ plays) [] (line ∷ lines) [] h k a b = absurd (not_the_end number text steps _ (starts_with steps line lines text _ h.0 a) h.0.fit b)
  same_plays number text (steps ∷ plays) [] (line ∷ lines) (other ∷ those) h k a b = absurd k
  same_plays number text (steps ∷ plays) (more ∷ others) (line ∷ lines) [] h k a b = absurd k
  same_plays number text (steps ∷ plays) (more ∷ others) (line ∷ lines) (other ∷ those) h k a b =
      let same = same_line number text steps _ (starts_with steps line lines text _ h.0 a) h.0.fit more _ (starts_with more other those text _ k.0 b) k.0.fit in
      ap (λ (s : List Step). s ∷ plays) same.0 ∙ ap (λ (ss : List (List Step)). more ∷ ss) (same_plays (number + 1) (closed lines ++ (codes "done" ++ 10 ∷ [])) plays others lines those h.1 k.1 refl same.1)

  -- lines of plays up to `done` aren't refused
  plays_not_refused : (number : ℕ) (text bytes : List ℕ) (fault : InputFault) (plays items : List (List Step)) (lines those : List (List ℕ)) → AreLinesOf (IsLineOfPlay setup) plays lines → AreLinesOf (IsLineOfPlay setup) items those
      → text ≡ closed lines ++ (codes "done" ++ 10 ∷ []) → text ≡ closed those ++ bytes → IsBadForPlays setup (number + length items) bytes fault → ⊥
  plays_not_refused number text bytes fault [] [] [] [] h k a b bad = end_not_bad setup (number + 0) bytes fault (sym b ∙ a) bad
  plays_not_refused number text bytes fault plays [] lines (other ∷ those) h k a b bad = absurd k
  plays_not_refused number text bytes fault [] items (line ∷ lines) those h k a b bad = absurd h
  plays_not_refused number text bytes fault plays (more ∷ items) lines [] h k a b bad = absurd k
  plays_not_refused number text bytes fault (steps ∷ plays) items [] those h k a b bad = absurd h
  plays_not_refused number text bytes fault [] (more ∷ items) [] (other ∷ those) h k a b bad = not_the_end number text more _ (starts_with more other those text _ k.0 b) k.0.fit a
  plays_not_refused number text bytes fault (steps ∷ plays) [] (line ∷ lines) [] h k a b bad =
      play_not_bad setup (number + 0) bytes steps line (closed lines ++ (codes "done" ++ 10 ∷ [])) fault h.0 (sym b ∙ a ∙ line_in_front line lines _) bad
  plays_not_refused number text bytes fault (steps ∷ plays) (more ∷ items) (line ∷ lines) (other ∷ those) h k a b bad =
      let same = same_line number text steps _ (starts_with steps line lines text _ h.0 a) h.0.fit more _ (starts_with more other those text _ k.0 b) k.0.fit in
      plays_not_refused (number + 1) (closed lines ++ (codes "done" ++ 10 ∷ [])) bytes fault plays items lines those h.1 k.1 refl same.1
      (subst (λ (n : ℕ). IsBadForPlays setup n bytes fault) (omega arith) bad)

  -- a text is refused in one way
  same_bad : (number : ℕ) (text bytes back : List ℕ) (fault other : InputFault) (items others : List (List Step)) (lines those : List (List ℕ)) → AreLinesOf (IsLineOfPlay setup) items lines → AreLinesOf (IsLineOfPlay setup) others those
      → text ≡ closed lines ++ bytes → text ≡ closed those ++ back → IsBadForPlays setup (number + length items) bytes fault → IsBadForPlays setup (number + length others) back other → fault ≡ other
  same_bad number text bytes back fault other [] [] [] [] h k a b bad worse = one_bad setup (number + 0) back fault other (subst (λ (t : List ℕ). IsBadForPlays setup (number + 0) t fault) (sym a ∙ b) bad) worse
  same_bad number text bytes back fault other items [] lines (line ∷ those) h k a b bad worse = absurd k
  same_bad number text bytes back fault other [] others (line ∷ lines) those h k a b bad worse = absurd h
  same_bad number text bytes back fault other items (more ∷ others) lines [] h k a b bad worse = absurd k
  same_bad number text bytes back fault other (steps ∷ items) others [] those h k a b bad worse = absurd h
  same_bad number text bytes back fault other [] (more ∷ others) [] (line ∷ those) h k a b bad worse =
      absurd (play_not_bad setup (number + 0) bytes more line (closed those ++ back) fault k.0 (sym a ∙ b ∙ line_in_front line those back) bad)
  same_bad number text bytes back fault other (steps ∷ items) [] (line ∷ lines) [] h k a b bad worse =
      absurd (play_not_bad setup (number + 0) back steps line (closed lines ++ bytes) other h.0 (sym b ∙ a ∙ line_in_front line lines bytes) worse)
  same_bad number text bytes back fault other (steps ∷ items) (more ∷ others) (line ∷ lines) (next ∷ those) h k a b bad worse =
      let same = same_line number text steps _ (starts_with steps line lines text bytes h.0 a) h.0.fit more _ (starts_with more next those text back k.0 b) k.0.fit in
      same_bad (number + 1) (closed lines ++ bytes) bytes back fault other items others lines those h.1 k.1 refl same.1
      (subst (λ (n : ℕ). IsBadForPlays setup n bytes fault) (omega arith) bad) (subst (λ (n : ℕ). IsBadForPlays setup n back other) (omega arith) worse)

-- ---- behind a test

done_behind : (setup : Setup) (plays : List (List Step)) (text : List ℕ) → (h : IsTextOf (IsLineOfPlay setup) plays text []) → text ≡ closed h.lines ++ (codes "done" ++ 10 ∷ [])
done_behind setup plays text h = h.whole ∙ append-nil (closed (h.lines ++ codes "done" ∷ [])) ∙ closed-append h.lines (codes "done" ∷ [])

module _ (s : Settings) (bytes : List ℕ) where
  pub one_meaning_of_plays : (p q : Program) (runs others : List (List ℕ)) → ArePlayedRuns s bytes p runs → ArePlayedRuns s bytes q others → (p ≡ q) × (runs ≡ others)
  one_meaning_of_plays p q runs others h k =
      let tests = same_test bytes p q h.text.rest k.text.rest h.text.test k.text.test in
      let rests = same_rest bytes p q h.text.rest k.text.rest h.text.test k.text.test in
      let there : IsTextOf (IsLineOfPlay (setup_of s p)) k.schedules h.text.rest [] =
      subst (λ (t : Program). IsTextOf (IsLineOfPlay (setup_of s t)) k.schedules h.text.rest []) (sym tests)
      (subst (λ (r : List ℕ). IsTextOf (IsLineOfPlay (setup_of s q)) k.schedules r []) (sym rests) k.text.text) in
      let here = h.text.text in
      let plays = same_plays (setup_of s p) 0 h.text.rest h.schedules k.schedules here.lines there.lines here.each there.each (done_behind (setup_of s p) h.schedules h.text.rest here) (done_behind (setup_of s p) k.schedules h.text.rest there) in (
        tests,
        h.played ∙ ap (map (run_after (setup_of s p))) plays ∙ ap (λ (t : Program). map (run_after (setup_of s t)) k.schedules) tests ∙ sym k.played,
      )

  pub not_both_plays : (p : Program) (runs : List (List ℕ)) (fault : InputFault) → ArePlayedRuns s bytes p runs → AreRefusedPlays s bytes fault → ⊥
  not_both_plays p runs fault h (in_test refusal refused named) = not_a_test bytes p h.text.rest refusal h.text.test refused
  not_both_plays p runs fault h (behind q rest refusal starts refused named) =
      let tests = same_test bytes p q h.text.rest rest h.text.test starts in
      let rests = same_rest bytes p q h.text.rest rest h.text.test starts in
      let here : IsTextOf (IsLineOfPlay (setup_of s q)) h.schedules rest [] =
      subst (λ (t : Program). IsTextOf (IsLineOfPlay (setup_of s t)) h.schedules rest []) tests
      (subst (λ (r : List ℕ). IsTextOf (IsLineOfPlay (setup_of s p)) h.schedules r []) rests h.text.text) in
      plays_not_refused (setup_of s q) (length (test_lines q) + 1) rest refused.bytes refusal h.schedules refused.items here.lines refused.lines here.each refused.each (done_behind (setup_of s q) h.schedules rest here) refused.whole refused.bad

  pub one_refusal_of_plays : (fault other : InputFault) → AreRefusedPlays s bytes fault → AreRefusedPlays s bytes other → fault ≡ other
  one_refusal_of_plays fault other (in_test r h named) (in_test t k also) = some_one fault other (sym named ∙ ap fault_in_test (same_refusal_of_test bytes r t h k) ∙ also)
  one_refusal_of_plays fault other (in_test r h named) (behind q rest t starts k also) = absurd (not_a_test bytes q rest r starts h)
  one_refusal_of_plays fault other (behind p rest r starts h named) (in_test t k also) = absurd (not_a_test bytes p rest t starts k)
  one_refusal_of_plays fault other (behind p rest r starts h named) (behind q others t also_starts k also) =
      let tests = same_test bytes p q rest others starts also_starts in
      let rests = same_rest bytes p q rest others starts also_starts in
      let here : IsRefusedText (IsLineOfPlay (setup_of s q)) (IsBadForPlays (setup_of s q)) (length (test_lines q) + 1) others r =
      subst (λ (t : Program). IsRefusedText (IsLineOfPlay (setup_of s t)) (IsBadForPlays (setup_of s t)) (length (test_lines t) + 1) others r) tests
      (subst (λ (x : List ℕ). IsRefusedText (IsLineOfPlay (setup_of s p)) (IsBadForPlays (setup_of s p)) (length (test_lines p) + 1) x r) rests h) in
      let same = same_bad (setup_of s q) (length (test_lines q) + 1) others here.bytes k.bytes r t here.items k.items here.lines k.lines here.each k.each here.whole k.whole here.bad k.bad in
      some_one fault other (sym named ∙ ap Some same ∙ also)
