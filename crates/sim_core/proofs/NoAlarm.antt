-- Without a fault, whichever way that is told, a done play raises no alarm.
use Rattle.std.proofs.Common.{◌≡◌, List, sym, subst}
use Rattle.std.specs.Prelude.{IsTrue}
use Rattle.test_lang.specs.declared.op.MemModel.{MemModel}
use Rattle.test_lang.specs.declared.step.Step.{Step}
use Rattle.test_lang.specs.declared.target.Fault.{Fault}
use Rattle.test_lang.specs.declared.target.Fault.TheVariants as faults
use Rattle.test_lang.specs.Edges.{IsRunOrder}
use Rattle.test_lang.specs.Runs.{IsInside}
use Rattle.test_lang.specs.Play.Plays.{IsDonePlay, run_of, effects_of}
use Rattle.sim_core.specs.Setup.{Setup, effects_after, is_done_after, run_after, IsPlayOf}

module _ (setup : Setup) (steps : List Step) (is_play : IsPlayOf setup steps) (none : setup.fault ≡ faults.None) (done : IsTrue (is_done_after setup steps)) where
  done_play : IsDonePlay setup.target faults.None setup.test steps
  done_play = subst (λ (fault : Fault). IsDonePlay setup.target fault setup.test steps) none (record { is_play = is_play; done = done })

  pub inside_by : (IsDonePlay setup.target faults.None setup.test steps → IsInside setup.test (run_of setup.target faults.None setup.test steps)) → IsInside setup.test (run_after setup steps)
  inside_by law = subst (λ (fault : Fault). IsInside setup.test (run_of setup.target fault setup.test steps)) (sym none) (law done_play)

  pub ordered_by : (weaker : MemModel)
      → (IsDonePlay setup.target faults.None setup.test steps → IsRunOrder weaker setup.test (run_of setup.target faults.None setup.test steps) (effects_of setup.target faults.None setup.test steps))
      → IsRunOrder weaker setup.test (run_after setup steps) (effects_after setup steps)
  ordered_by weaker law =
      subst (λ (fault : Fault). IsRunOrder weaker setup.test (run_of setup.target fault setup.test steps) (effects_of setup.target fault setup.test steps)) (sym none) (law done_play)
