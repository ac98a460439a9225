use Rattle.std.proofs.Common.{◌∙◌, ap, length}
use Rattle.std.proofs.lemmas.List.{length-replicate}
use Rattle.weak_machine.proofs.Flags.{empty-set, zeros-of}
use Rattle.weak_machine.proofs.node_set.NodeSet.new.Goals as goal

pub invariant_of-result : goal.invariant_of-result
invariant_of-result c =
    let zeros = c.in_ok-words.ensures.items_if_clones_equal (λ y h. h) in
    empty-set c.in_ok-words.words.items c.args.nodes c.requires (ap length zeros ∙ length-replicate _ 0) (zeros-of c.in_ok-words.words.items _ zeros)
