-- A schedule that is played step by step.
use Rattle.std.proofs.Common.{◌≡◌, ◌∙◌, ℕ, ◌+◌, ◌<◌, List, [], ◌∷◌, ◌++◌, take, length, get_or, false, arith, ap}
use Rattle.std.proofs.lemmas.List.{take_more}
use Rattle.std.proofs.lemmas.Option.{slice_get-get_or}
use Rattle.test_lang.specs.declared.step.Step.{Step}
use Rattle.test_lang.specs.Play.Machines.{after}
use Rattle.test_lang.specs.Play.Plays.{steps_left}
use Rattle.sim_core.specs.Setup.{Setup, state_after, is_enabled_after, steps_left_after, IsPlayOf}
use Rattle.sim_core.specs.Schedules.{IsFirstNotEnabled}
use Rattle.sim_core.proofs.PlaysOn.{final-push}

module _ (setup : Setup) (steps : List Step) (place : ℕ) (other : Step) (within : place < length steps) where
  pub first_not_enabled : IsPlayOf setup (take place steps) → is_enabled_after setup (take place steps) (get_or steps place other) ≡ false → IsFirstNotEnabled setup steps place
  first_not_enabled is_play refused = record { before = is_play; step = get_or steps place other; at = slice_get-get_or steps place other within; not_enabled = refused }

  pub one_more : take (place + 1) steps ≡ take place steps ++ get_or steps place other ∷ []
  one_more = take_more steps place other within

  -- one step less is left
  pub left_more : (all : ℕ) → steps_left_after setup (take place steps) + place ≡ all
      → steps_left setup.target setup.fault setup.test (after setup.target setup.fault setup.test (state_after setup (take place steps)) (get_or steps place other)) + 1 ≡ steps_left_after setup (take place steps)
      → steps_left_after setup (take (place + 1) steps) + (place + 1) ≡ all
  left_more all before fell =
      let there : steps_left_after setup (take (place + 1) steps) ≡ steps_left setup.target setup.fault setup.test (after setup.target setup.fault setup.test (state_after setup (take place steps)) (get_or steps place other)) =
      ap (steps_left_after setup) one_more ∙ ap (steps_left setup.target setup.fault setup.test) (final-push setup.target setup.fault setup.test (take place steps) (get_or steps place other)) in
      omega (arith, before, fell, there)
