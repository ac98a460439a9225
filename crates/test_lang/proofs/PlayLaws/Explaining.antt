-- Each done play without a fault explains its loads.
use Rattle.std.proofs.Common.{List}
use Rattle.test_lang.specs.declared.op.MemModel.TheVariants as models
use Rattle.test_lang.specs.declared.step.Step.{Step}
use Rattle.test_lang.specs.declared.target.Target.{Target}
use Rattle.test_lang.specs.declared.target.Target.TheVariants.{Sc, Tso, Pso, Weak}
use Rattle.test_lang.specs.declared.target.Fault.TheVariants as faults
use Rattle.test_lang.specs.Program.{Program}
use Rattle.test_lang.specs.Kept.{IsKept}
use Rattle.test_lang.specs.Play.Machines.{model_of}
use Rattle.test_lang.specs.Play.Plays.{IsDonePlay, final, run_of, effects_of}
use Rattle.test_lang.specs.Play.Explanations.{Explains}
use Rattle.test_lang.proofs.PlayLaws.Sound.{explains_of}
use Rattle.test_lang.proofs.PlayLaws.DirectPlays.{sc_plays, weak_plays}
use Rattle.test_lang.proofs.PlayLaws.BufferedPlays.{tso_plays, pso_plays}

pub explains : (target : Target) (p : Program) (steps : List Step) → IsDonePlay target faults.None p steps → Explains (IsKept (model_of target) p) p (run_of target faults.None p steps) (effects_of target faults.None p steps)
explains Sc p steps h = explains_of (IsKept models.Sc p) p (final Sc faults.None p steps) (sc_plays p steps h.is_play) h.done
explains Tso p steps h = explains_of (IsKept models.Tso p) p (final Tso faults.None p steps) (tso_plays p steps h.is_play).sound h.done
explains Pso p steps h = explains_of (IsKept models.Pso p) p (final Pso faults.None p steps) (pso_plays p steps h.is_play).sound h.done
explains Weak p steps h = explains_of (IsKept models.Weak p) p (final Weak faults.None p steps) (weak_plays p steps h.is_play) h.done
