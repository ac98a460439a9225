use Rattle.std.proofs.Common.{◌∙◌, Bool, List, ap, sym, length}
use Rattle.weak_machine.specs.NodeSets.{flagged}
use Rattle.weak_machine.proofs.Flags.{flagged-flags}
use Rattle.weak_machine.proofs.node_set.NodeSet.count.Goals as goal

pub returns : goal.returns
returns c =
    let s = c.self.inside in
    c.self.invariant.counted ∙ ap length (sym (flagged-flags s.words.items s.nodes)) ∙ ap (λ (flags : List Bool). length (flagged flags)) c.self.view_is
