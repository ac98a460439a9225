use Rattle.std.proofs.Common.{subst}
use Rattle.tso_machine.specs.Moments.{Moment}
use Rattle.tso_machine.specs.Moves.{IsCounted}
use Rattle.tso_machine.proofs.Counting.{done_counted}
use Rattle.tso_machine.proofs.buffered.BufferedMachine.done.Goals as goal

pub returns : goal.returns
returns c =
    let k = subst (λ (m : Moment). IsCounted m c.self.inside.counts.items c.self.inside.total) c.self.view_is c.self.invariant in
    λ steps s. done_counted c.args.self.now c.self.inside.counts.items c.self.inside.total k steps s
