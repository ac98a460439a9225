use Rattle.std.proofs.Common.{◌∙◌, length, ap, sym}
use Rattle.sim_core.specs.Setup.{Setup}
use Rattle.tso_machine.proofs.Counting.{long_counts}
use Rattle.tso_machine.proofs.buffered.BufferedMachine.reset.Goals as goal

pub count_all-self-inside-requires : goal.count_all-self-inside-requires
count_all-self-inside-requires c =
    ap length c.deref_mut.ensures.value
    ∙ long_counts c.self.inside.playing c.self.inside.counts.items c.self.inside.total c.self.invariant
    ∙ ap (λ (setup : Setup). length setup.test.threads) (sym c.reset.ensures.setup)
