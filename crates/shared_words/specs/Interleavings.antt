-- What a race gives.
use Rattle.std.specs.Prelude.{◌≡◌, ℕ, List}
use Rattle.test_lang.specs.declared.step.Step.{Step}
use Rattle.test_lang.specs.declared.target.Target.TheVariants.{Sc}
use Rattle.test_lang.specs.declared.target.Fault.TheVariants.{None}
use Rattle.test_lang.specs.Program.{Program}
use Rattle.test_lang.specs.Play.Plays.{IsDonePlay, run_of}

-- The run is that of an interleaving of the threads: of a play of the sequential machine, without a fault, that is done.
pub record IsInterleaved (p : Program) (run : List ℕ) : Type 0 where
  pub steps : List Step
  pub is_done_play : IsDonePlay Sc None p steps
  pub gives : run_of Sc None p steps ≡ run
