-- Which machine can carry which planted fault.
use Rattle.std.specs.Prelude.{Bool, true, false}
use Rattle.test_lang.specs.declared.target.Target.{Target}
use Rattle.test_lang.specs.declared.target.Target.TheVariants.{Sc, Tso, Pso, Weak}
use Rattle.test_lang.specs.declared.target.Fault.{Fault}
use Rattle.test_lang.specs.declared.target.Fault.TheVariants.{None, Stale, NoFence, Unordered, NoForward, LoadLoad}

abbrev pub fits : Target → Fault → Bool
fits Sc None = true
fits Sc (Stale node) = true
fits Sc NoFence = false
fits Sc Unordered = false
fits Sc NoForward = false
fits Sc LoadLoad = false
fits Tso None = true
fits Tso (Stale node) = true
fits Tso NoFence = true
fits Tso Unordered = true
fits Tso NoForward = true
fits Tso LoadLoad = false
fits Pso None = true
fits Pso (Stale node) = true
fits Pso NoFence = true
fits Pso Unordered = true
fits Pso NoForward = true
fits Pso LoadLoad = false
fits Weak None = true
fits Weak (Stale node) = true
fits Weak NoFence = true
fits Weak Unordered = false
fits Weak NoForward = true
fits Weak LoadLoad = true
