-- One more step at the end of a play.
use Rattle.std.proofs.Common.{◌≡◌, List, [], ◌∷◌, ◌++◌, refl}
use Rattle.std.specs.Prelude.{IsTrue}
use Rattle.test_lang.specs.declared.target.Target.{Target}
use Rattle.test_lang.specs.declared.target.Fault.{Fault}
use Rattle.test_lang.specs.declared.step.Step.{Step}
use Rattle.test_lang.specs.Program.{Program}
use Rattle.test_lang.specs.Play.States.{State, opening}
use Rattle.test_lang.specs.Play.Machines.{is_enabled, after}
use Rattle.test_lang.specs.Play.Plays.{after_all, AreEnabled, IsPlay, final}

module _ (target : Target) (fault : Fault) (p : Program) where
  after_all-push : (st : State) (steps : List Step) (step : Step) → after_all target fault p st (steps ++ step ∷ []) ≡ after target fault p (after_all target fault p st steps) step
  after_all-push st [] step = refl
  after_all-push st (first ∷ more) step = after_all-push (after target fault p st first) more step

  AreEnabled-push : (st : State) (steps : List Step) (step : Step) → AreEnabled target fault p st steps → IsTrue (is_enabled target fault p (after_all target fault p st steps) step)
      → AreEnabled target fault p st (steps ++ step ∷ [])
  AreEnabled-push st [] step h e = (e, tt)
  AreEnabled-push st (first ∷ more) step h e = (h.0, AreEnabled-push (after target fault p st first) more step h.1 e)

  pub final-push : (steps : List Step) (step : Step) → final target fault p (steps ++ step ∷ []) ≡ after target fault p (final target fault p steps) step
  final-push steps step = after_all-push opening steps step

  pub IsPlay-push : (steps : List Step) (step : Step) → IsPlay target fault p steps → IsTrue (is_enabled target fault p (final target fault p steps) step) → IsPlay target fault p (steps ++ step ∷ [])
  IsPlay-push steps step h e = AreEnabled-push opening steps step h e
