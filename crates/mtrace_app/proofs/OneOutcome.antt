-- A schedule comes out in one way.
use Rattle.std.proofs.Common.{◌≡◌, ℕ, zero, suc, ◌<◌, List, [], ◌∷◌, Bool, true, false, refl, sym, ap, subst, arith, take, Err, inl, inr, ◌⊎◌}
use Rattle.std.specs.Prelude.{Some, IsTrue, IsFalse, slice_get}
use Rattle.std.proofs.lemmas.Bool.{cases_order}
use Rattle.test_lang.specs.declared.step.Step.{Step}
use Rattle.test_lang.specs.declared.target.Target.{Target}
use Rattle.test_lang.specs.declared.target.Fault.{Fault}
use Rattle.test_lang.specs.Program.{Program}
use Rattle.test_lang.specs.Play.States.{State, opening}
use Rattle.test_lang.specs.Play.Machines.{is_enabled, after}
use Rattle.test_lang.specs.Play.Plays.{AreEnabled, after_all}
use Rattle.sim_core.specs.declared.schedule.PlayFault.{PlayFault}
use Rattle.sim_core.specs.declared.schedule.PlayFault.TheVariants.{NotEnabled, Unfinished}
use Rattle.sim_core.specs.Setup.{Setup, IsDonePlayOf, IsPlayOf, is_enabled_after}
use Rattle.sim_core.specs.Schedules.{ComesOut}

no_step : {P : Type 0} (place : ℕ) (step : Step) (steps : List Step) → steps ≡ [] → slice_get steps place ≡ Some step → P
no_step place step steps none e = absurd cc

module _ (target : Target) (fault : Fault) (p : Program) where
  -- each step of a play is enabled behind those before it
  enabled_at : (st : State) (steps : List Step) (place : ℕ) (step : Step) → AreEnabled target fault p st steps → slice_get steps place ≡ Some step → IsTrue (is_enabled target fault p (after_all target fault p st (take place steps)) step)
  enabled_at st [] place step h e = no_step place step [] refl e
  enabled_at st (first ∷ more) zero step h e = let same : first ≡ step = cc in subst (λ (x : Step). IsTrue (is_enabled target fault p st x)) same h.0
  enabled_at st (first ∷ more) (suc place) step h e = enabled_at (after target fault p st first) more place step h.1 e

-- the step at an earlier place is one of the first steps, and those before it are the same
get_within : (steps : List Step) (place later : ℕ) (step : Step) → place < later → slice_get steps place ≡ Some step → slice_get (take later steps) place ≡ Some step
get_within [] place later step lt e = no_step place step [] refl e
get_within (first ∷ more) place zero step lt e = absurd (omega (arith, lt))
get_within (first ∷ more) zero (suc later) step lt e = e
get_within (first ∷ more) (suc place) (suc later) step lt e = get_within more place later step (omega (arith, lt)) e

take_none : (n : ℕ) → take {A = Step} n [] ≡ []
take_none zero = refl
take_none (suc n) = refl

take_within : (steps : List Step) (place later : ℕ) → place < later → take place (take later steps) ≡ take place steps
take_within [] place later lt = ap (take place) (take_none later)
take_within (first ∷ more) place zero lt = absurd (omega (arith, lt))
take_within (first ∷ more) zero (suc later) lt = refl
take_within (first ∷ more) (suc place) (suc later) lt = ap (λ (xs : List Step). first ∷ xs) (take_within more place later (omega (arith, lt)))

true_not_false : (b : Bool) → IsTrue b → IsFalse b → ⊥
true_not_false true t f = cc
true_not_false false t f = cc

module _ (setup : Setup) (steps : List Step) where
  -- the steps before this place are enabled, and this one isn't
  not_a_play : (place : ℕ) (step : Step) → IsPlayOf setup steps → slice_get steps place ≡ Some step → IsFalse (is_enabled_after setup (take place steps) step) → ⊥
  not_a_play place step play at not =
      true_not_false (is_enabled_after setup (take place steps) step) (enabled_at setup.target setup.fault setup.test opening steps place step play at) not

  pub done_not_refused : (refusal : PlayFault) → IsDonePlayOf setup steps → ComesOut setup steps (Err refusal) → ⊥
  done_not_refused (NotEnabled place) done out = not_a_play place out.step done.is_play out.at out.not_enabled
  done_not_refused Unfinished done out = true_not_false _ done.done out.not_done

module _ (setup : Setup) (steps : List Step) where
  earlier : (place later : ℕ) (step : Step) → place < later → slice_get steps place ≡ Some step → IsFalse (is_enabled_after setup (take place steps) step) → IsPlayOf setup (take later steps) → ⊥
  earlier place later step lt at not play =
      not_a_play setup (take later steps) place step play (get_within steps place later step lt at)
      (subst (λ (xs : List Step). IsFalse (is_enabled_after setup xs step)) (sym (take_within steps place later lt)) not)

  by_places : (place other : ℕ) → ComesOut setup steps (Err (NotEnabled place)) → ComesOut setup steps (Err (NotEnabled other)) → (place ≡ other) ⊎ ((place < other) ⊎ (other < place)) → place ≡ other
  by_places place other a b way = elim way [
    | inl e ↦ e
    | inr more ↦ elim more [
      | inl lt ↦ absurd (earlier place other a.step lt a.at a.not_enabled b.before)
      | inr lt ↦ absurd (earlier other place b.step lt b.at b.not_enabled a.before)
    ]
  ]

  pub one_refusal_of_play : (a b : PlayFault) → ComesOut setup steps (Err a) → ComesOut setup steps (Err b) → a ≡ b
  one_refusal_of_play (NotEnabled place) (NotEnabled other) a b = ap NotEnabled (by_places place other a b (cases_order place other))
  one_refusal_of_play (NotEnabled place) Unfinished a b = absurd (not_a_play setup steps place a.step b.is_play a.at a.not_enabled)
  one_refusal_of_play Unfinished (NotEnabled place) a b = absurd (not_a_play setup steps place b.step a.is_play b.at b.not_enabled)
  one_refusal_of_play Unfinished Unfinished a b = refl
