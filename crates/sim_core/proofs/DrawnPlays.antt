-- Plays that are drawn: each run has one, and a seed has one list of drawn runs.
use Rattle.std.proofs.Common.{◌≡◌, ◌∙◌, ℕ, zero, suc, ◌+◌, ◌*◌, ◌%◌, ◌<◌, ◌≤◌, ◌⊎◌, List, [], ◌∷◌, ◌++◌, take, length, get_or, Bool, true, false, Some, refl, ap, arith, sym, subst, ⊎_elim, length-append}
use Rattle.std.specs.Prelude.{slice_get, Contains}
use Rattle.std.specs.List.{AllByRecursion}
use Rattle.std.proofs.Math.Nat.{mod-lt}
use Rattle.std.proofs.Math.Numerals.{add-one}
use Rattle.std.proofs.Math.Seq.{take-append_seam}
use Rattle.std.proofs.lemmas.Bool.{cases_lt, cases_order}
use Rattle.std.proofs.lemmas.List.{take-append-le, take_all}
use Rattle.std.proofs.lemmas.List.Elements.{Contains-get_or}
use Rattle.std.proofs.lemmas.Option.{same_Some, slice_get_past, slice_get_within, slice_get-get_or}
use Rattle.mt_base.specs.Words.{word}
use Rattle.test_lang.specs.declared.step.Step.{Step}
use Rattle.test_lang.specs.declared.step.Step.TheVariants.{Execute}
use Rattle.test_lang.specs.Program.{IsWithinLimits, op_count}
use Rattle.test_lang.specs.Runs.{IsRun}
use Rattle.test_lang.specs.Play.Plays.{steps_left}
use Rattle.test_lang.specs.Play.States.{State, opening}
use Rattle.test_lang.proofs.Places.{slice_get_cases_end, slice_get_end, slice_get_left, take-slice_get}
use Rattle.test_lang.proofs.PlayLaws.ChoiceLists.{chosen, chosen_back}
use Rattle.test_lang.proofs.PlayLaws.GivenRuns.{play_gives_run}
use Rattle.test_lang.proofs.PlayLaws.GoingOn.{goes_on}
use Rattle.test_lang.proofs.PlayLaws.Moves.{coherent}
use Rattle.test_lang.proofs.PlayLaws.StepsLeft.{ends, falls, few}
use Rattle.sim_core.specs.Drawn.{AreDrawn, AreDrawnRuns, IsDrawnPlay, IsDrawnRun}
use Rattle.sim_core.specs.Setup.{Setup, choices_after, is_done_after, is_enabled_after, run_after, state_after, steps_left_after, IsPlayOf}
use Rattle.sim_core.proofs.PlaysOn.{final-push, IsPlay-push}

-- ---- one step more of a play

module _ (setup : Setup) (steps : List Step) (is_play : IsPlayOf setup steps) where
  pub left_behind : (step : Step) → is_enabled_after setup steps step ≡ true → steps_left_after setup (steps ++ step ∷ []) + 1 ≡ steps_left_after setup steps
  left_behind step enabled =
      ap (λ (st : State). steps_left setup.target setup.fault setup.test st + 1) (final-push setup.target setup.fault setup.test steps step)
      ∙ falls setup.target setup.fault setup.test (state_after setup steps) step (coherent setup.target setup.fault setup.test steps is_play) enabled

  -- a play that isn't done has a choice
  pub some_choice : is_done_after setup steps ≡ false → 0 < length (choices_after setup steps)
  some_choice not_done =
      let next = goes_on setup.target setup.fault setup.test steps is_play not_done in
      let there = chosen setup.target setup.fault setup.test (state_after setup steps) next.0 next.1 in
      let within = there.1 in
      omega (arith, within)

  -- the choice with this number is enabled
  pub choice_enabled : (number : ℕ) (step : Step) → slice_get (choices_after setup steps) number ≡ Some step → is_enabled_after setup steps step ≡ true
  choice_enabled number step e =
      let within = slice_get_within (choices_after setup steps) number step e in
      let same : get_or (choices_after setup steps) number (Execute 0) ≡ step = same_Some _ _ (sym (slice_get-get_or (choices_after setup steps) number (Execute 0) within) ∙ e) in
      chosen_back setup.target setup.fault setup.test (state_after setup steps) step
      (subst (λ (s : Step). Contains (choices_after setup steps) s) same (Contains-get_or (choices_after setup steps) number (Execute 0) within))

  -- where all is done there is no choice
  pub done_choice : (number : ℕ) (step : Step) → is_done_after setup steps ≡ true → slice_get (choices_after setup steps) number ≡ Some step → ⊥
  done_choice number step done e =
      let none = (ends setup.target setup.fault setup.test (state_after setup steps) (coherent setup.target setup.fault setup.test steps is_play)).0 done in
      let left = left_behind step (choice_enabled number step e) in
      absurd (omega (arith, none, left))

-- ---- drawn plays

module _ (setup : Setup) (seed run : ℕ) where
  -- the step that is drawn behind these
  abbrev pub IsDrawnNext : List Step → Step → Type 0
  IsDrawnNext steps step = slice_get (choices_after setup steps) (word seed run (length steps) % length (choices_after setup steps)) ≡ Some step

  pub are_drawn-none : AreDrawn setup seed run []
  are_drawn-none = λ j within. absurd (omega (arith, within))

  -- the step with number j of these is drawn behind the front
  abbrev DrawsAt : List Step → ℕ → List Step → Type 0
  DrawsAt steps j front = slice_get (choices_after setup front) (word seed run j % length (choices_after setup front)) ≡ slice_get steps j

  pub are_drawn-push : (steps : List Step) (step : Step) → AreDrawn setup seed run steps → IsDrawnNext steps step → AreDrawn setup seed run (steps ++ step ∷ [])
  are_drawn-push steps step drawn next = λ j within. ⊎_elim
      (λ (before : j < length steps).
      subst (DrawsAt (steps ++ step ∷ []) j) (sym (take-append-le j steps (step ∷ []) (omega (arith, before)))) (drawn j before ∙ sym (slice_get_left steps (step ∷ []) j before)))
      (λ (behind : length steps ≤ j).
      let e : length steps ≡ j = omega (arith, within, behind, length-append steps (step ∷ [])) in
      subst (λ (n : ℕ). DrawsAt (steps ++ step ∷ []) n (take n (steps ++ step ∷ []))) e
      (subst (DrawsAt (steps ++ step ∷ []) (length steps)) (sym (take-append_seam steps (step ∷ []))) (next ∙ sym (slice_get_end steps step (length steps) refl))))
      (cases_lt j (length steps))

  -- a play that isn't done goes on by a drawn step
  pub drawn_next : (steps : List Step) → IsPlayOf setup steps → is_done_after setup steps ≡ false → (step : Step) × IsDrawnNext steps step
  drawn_next steps is_play not_done = (
    get_or (choices_after setup steps) (word seed run (length steps) % length (choices_after setup steps)) (Execute 0),
    slice_get-get_or (choices_after setup steps) (word seed run (length steps) % length (choices_after setup steps)) (Execute 0)
        (mod-lt (word seed run (length steps)) (some_choice setup steps is_play not_done)),
  )

  -- it is done, or one step more is drawn
  goes_on_to : (Goal : Type 0) (steps : List Step) → IsPlayOf setup steps → (is_done_after setup steps ≡ true → Goal)
      → ((step : Step) → IsDrawnNext steps step → is_enabled_after setup steps step ≡ true → steps_left_after setup (steps ++ step ∷ []) + 1 ≡ steps_left_after setup steps → Goal) → Goal
  goes_on_to Goal steps is_play at_end onward = by_done (is_done_after setup steps) refl where
    by_done : (b : Bool) → is_done_after setup steps ≡ b → Goal
    by_done true done = at_end done
    by_done false not_done =
        let next = drawn_next steps is_play not_done in
        let enabled = choice_enabled setup steps is_play (word seed run (length steps) % length (choices_after setup steps)) next.0 next.1 in
        onward next.0 next.1 enabled (left_behind setup steps is_play next.0 enabled)

  -- and comes to its end
  drawn_from : (n : ℕ) (steps : List Step) → IsPlayOf setup steps → AreDrawn setup seed run steps → steps_left_after setup steps ≤ n → (all : List Step) × IsDrawnPlay setup seed run all
  drawn_from zero steps is_play drawn few_left = (
    steps,
    record {
      are_drawn = drawn;
      is_done_play = record {
        is_play = is_play;
        done = (ends setup.target setup.fault setup.test (state_after setup steps) (coherent setup.target setup.fault setup.test steps is_play)).1 (omega (arith, few_left));
      };
    },
  )
  drawn_from (suc n) steps is_play drawn few_left = goes_on_to ((all : List Step) × IsDrawnPlay setup seed run all) steps is_play
      (λ done. (steps, record { are_drawn = drawn; is_done_play = record { is_play = is_play; done = done } }))
      (λ step next enabled left.
      drawn_from n (steps ++ step ∷ []) (IsPlay-push setup.target setup.fault setup.test steps step is_play enabled) (are_drawn-push steps step drawn next) (omega (arith, left, few_left)))

  pub some_drawn_play : (steps : List Step) × IsDrawnPlay setup seed run steps
  some_drawn_play = drawn_from (steps_left_after setup []) [] tt are_drawn-none (omega arith)

  -- two drawn plays begin with the same steps
  same_fronts : (steps others : List Step) → AreDrawn setup seed run steps → AreDrawn setup seed run others → (j : ℕ) → j ≤ length steps → j ≤ length others → take j steps ≡ take j others
  same_fronts steps others drawn drawn' zero within within' = refl
  same_fronts steps others drawn drawn' (suc j) within within' =
      let front = same_fronts steps others drawn drawn' j (omega (arith, within)) (omega (arith, within')) in
      let at = slice_get-get_or steps j (Execute 0) (omega (arith, within)) in
      let same : slice_get others j ≡ slice_get steps j =
      sym (drawn' j (omega (arith, within')))
      ∙ ap (λ (xs : List Step). slice_get (choices_after setup xs) (word seed run j % length (choices_after setup xs))) (sym front)
      ∙ drawn j (omega (arith, within)) in
      take-slice_get steps j (get_or steps j (Execute 0)) at
      ∙ ap (λ (xs : List Step). xs ++ get_or steps j (Execute 0) ∷ []) front
      ∙ sym (take-slice_get others j (get_or steps j (Execute 0)) (same ∙ at))

  no_longer : (steps others : List Step) → IsDrawnPlay setup seed run steps → IsDrawnPlay setup seed run others → length steps < length others → ⊥
  no_longer steps others h k shorter =
      let front : take (length steps) others ≡ steps =
      sym (same_fronts steps others h.are_drawn k.are_drawn (length steps) (omega arith) (omega (arith, shorter))) ∙ take_all (length steps) steps (omega arith) in
      let at = slice_get-get_or others (length steps) (Execute 0) shorter in
      done_choice setup steps h.is_done_play.is_play (word seed run (length steps) % length (choices_after setup steps)) (get_or others (length steps) (Execute 0)) h.is_done_play.done
      (subst (λ (xs : List Step). slice_get (choices_after setup xs) (word seed run (length steps) % length (choices_after setup xs)) ≡ slice_get others (length steps)) front (k.are_drawn (length steps) shorter) ∙ at)

  pub one_drawn_play : (steps others : List Step) → IsDrawnPlay setup seed run steps → IsDrawnPlay setup seed run others → steps ≡ others
  one_drawn_play steps others h k = ⊎_elim
      (λ (same : length steps ≡ length others).
      sym (take_all (length steps) steps (omega arith))
      ∙ same_fronts steps others h.are_drawn k.are_drawn (length steps) (omega arith) (omega (arith, same))
      ∙ take_all (length steps) others (omega (arith, same)))
      (λ (other : (length steps < length others) ⊎ (length others < length steps)). ⊎_elim
      (λ (shorter : length steps < length others). absurd (no_longer steps others h k shorter))
      (λ (longer : length others < length steps). absurd (no_longer others steps k h longer))
      other)
      (cases_order (length steps) (length others))

  one_drawn_run : (values others : List ℕ) → IsDrawnRun setup seed run values → IsDrawnRun setup seed run others → values ≡ others
  one_drawn_run values others h k = h.gives ∙ ap (run_after setup) (one_drawn_play h.steps k.steps h.is_drawn_play k.is_drawn_play) ∙ sym k.gives

-- ---- a play that is drawn step by step

-- So many steps were drawn, and the machine stands behind them.
pub record AreDrawnSoFar (setup : Setup) (seed run : ℕ) (Stands : List Step → Type 0) (count : ℕ) : Type 0 where
  pub steps : List Step
  pub stands : Stands steps
  pub is_play : IsPlayOf setup steps
  pub are_drawn : AreDrawn setup seed run steps
  pub number : length steps ≡ count
  pub left : steps_left_after setup steps + count ≡ steps_left_after setup []

module _ (setup : Setup) (seed run : ℕ) where
  pub so_far-none : (Stands : List Step → Type 0) → Stands [] → AreDrawnSoFar setup seed run Stands 0
  so_far-none Stands at_opening = record {
    steps = [];
    stands = at_opening;
    is_play = tt;
    are_drawn = are_drawn-none setup seed run;
    number = refl;
    left = omega arith;
  }

  pub so_far-push : (Stands New : List Step → Type 0) (count : ℕ) (step : Step) → (h : AreDrawnSoFar setup seed run Stands count)
      → slice_get (choices_after setup h.steps) (word seed run count % length (choices_after setup h.steps)) ≡ Some step
      → New (h.steps ++ step ∷ []) → AreDrawnSoFar setup seed run New (count + 1)
  so_far-push Stands New count step h drawn stands =
      let enabled = choice_enabled setup h.steps h.is_play (word seed run count % length (choices_after setup h.steps)) step drawn in
      let fell = left_behind setup h.steps h.is_play step enabled in
      let before = h.left in
      let is_next : IsDrawnNext setup seed run h.steps step =
      subst (λ (n : ℕ). slice_get (choices_after setup h.steps) (word seed run n % length (choices_after setup h.steps)) ≡ Some step) (sym h.number) drawn in
      record {
        steps = h.steps ++ step ∷ [];
        stands = stands;
        is_play = IsPlay-push setup.target setup.fault setup.test h.steps step h.is_play enabled;
        are_drawn = are_drawn-push setup seed run h.steps step h.are_drawn is_next;
        number = length-append h.steps (step ∷ []) ∙ ap (λ (n : ℕ). n + 1) h.number;
        left = omega (arith, fell, before);
      }

  pub so_far-done : (Stands : List Step → Type 0) (count : ℕ) → (h : AreDrawnSoFar setup seed run Stands count) → is_done_after setup h.steps ≡ true → (steps : List Step) × IsDrawnPlay setup seed run steps × Stands steps
  so_far-done Stands count h done = (h.steps, record { are_drawn = h.are_drawn; is_done_play = record { is_play = h.is_play; done = done } }, h.stands)

  -- no play takes more steps than two for each operation
  pub so_far-end : (Stands : List Step → Type 0) (count : ℕ) → (h : AreDrawnSoFar setup seed run Stands count) → 2 * op_count setup.test ≤ count → is_done_after setup h.steps ≡ true
  so_far-end Stands count h many =
      let left = h.left in
      let most = few setup.target setup.fault setup.test opening in
      (ends setup.target setup.fault setup.test (state_after setup h.steps) (coherent setup.target setup.fault setup.test h.steps h.is_play)).1 (omega (arith, left, most, many))

-- ---- lists of drawn runs

-- lists whose reads agree are equal
equal_by_reads : {X : Type 0} (xs ys : List X) → ((k : ℕ) → slice_get xs k ≡ slice_get ys k) → xs ≡ ys
equal_by_reads [] [] reads = refl
equal_by_reads [] (y ∷ ys) reads = absurd (cc (reads 0))
equal_by_reads (x ∷ xs) [] reads = absurd (cc (reads 0))
equal_by_reads (x ∷ xs) (y ∷ ys) reads =
    ap (λ z. z ∷ xs) (same_Some x y (reads 0)) ∙ ap (λ zs. y ∷ zs) (equal_by_reads xs ys (λ k. reads (suc k)))

all_by_reads : {X : Type 0} (P : X → Type 0) (xs : List X) → ((k : ℕ) (x : X) → slice_get xs k ≡ Some x → P x) → AllByRecursion P xs
all_by_reads P [] each = tt
all_by_reads P (x ∷ xs) each = (each 0 x refl, all_by_reads P xs (λ k. each (suc k)))

module _ (setup : Setup) (seed : ℕ) where
  pub drawn_runs-none : AreDrawnRuns setup seed 0 []
  drawn_runs-none = record { number = refl; each = λ r values e. absurd cc }

  pub drawn_runs-push : (count : ℕ) (runs : List (List ℕ)) (values : List ℕ) → AreDrawnRuns setup seed count runs → IsDrawnRun setup seed count values → AreDrawnRuns setup seed (count + 1) (runs ++ values ∷ [])
  drawn_runs-push count runs values h drawn = record {
    number = length-append runs (values ∷ []) ∙ ap (λ (n : ℕ). n + 1) h.number;
    each = λ r others e. ⊎_elim
        (λ (old : slice_get runs r ≡ Some others). h.each r others old)
        (λ (new : (r ≡ length runs) × (values ≡ others)).
        subst (λ (n : ℕ). IsDrawnRun setup seed n others) (sym (new.0 ∙ h.number)) (subst (λ (vs : List ℕ). IsDrawnRun setup seed count vs) new.1 drawn))
        (slice_get_cases_end runs values r others e);
  }

  pub some_drawn_runs : (count : ℕ) → (runs : List (List ℕ)) × AreDrawnRuns setup seed count runs
  some_drawn_runs zero = ([], drawn_runs-none)
  some_drawn_runs (suc count) =
      let before = some_drawn_runs count in
      let play = some_drawn_play setup seed count in (
        before.0 ++ run_after setup play.0 ∷ [],
        subst (λ (n : ℕ). AreDrawnRuns setup seed n (before.0 ++ run_after setup play.0 ∷ [])) (add-one count)
            (drawn_runs-push count before.0 (run_after setup play.0) before.1 (record { steps = play.0; is_drawn_play = play.1; gives = refl })),
      )

  pub one_drawn_runs : (count : ℕ) (runs others : List (List ℕ)) → AreDrawnRuns setup seed count runs → AreDrawnRuns setup seed count others → runs ≡ others
  one_drawn_runs count runs others h k = equal_by_reads runs others (λ r. ⊎_elim
      (λ (within : r < count).
      let at = slice_get-get_or runs r [] (omega (arith, within, h.number)) in
      let at' = slice_get-get_or others r [] (omega (arith, within, k.number)) in
      at ∙ ap Some (one_drawn_run setup seed r _ _ (h.each r _ at) (k.each r _ at')) ∙ sym at')
      (λ (past : count ≤ r). slice_get_past runs r (omega (arith, past, h.number)) ∙ sym (slice_get_past others r (omega (arith, past, k.number))))
      (cases_lt r count))

  pub drawn_runs_are_runs : (count : ℕ) (runs : List (List ℕ)) → IsWithinLimits setup.test → AreDrawnRuns setup seed count runs → AllByRecursion (IsRun setup.test) runs
  drawn_runs_are_runs count runs limits h = all_by_reads (IsRun setup.test) runs (λ r values e.
      let drawn = h.each r values e in
      subst (IsRun setup.test) (sym drawn.gives) (play_gives_run setup.test limits setup.target setup.fault drawn.steps))
