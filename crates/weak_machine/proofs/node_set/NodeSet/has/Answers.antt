use Rattle.std.proofs.Common.{◌∙◌, ◌<◌, ◌/◌, ℕ, Bool, List, ap, sym, subst, arith, length}
use Rattle.weak_machine.specs.NodeSets.{has_bit, has_flag}
use Rattle.weak_machine.proofs.Flags.{length-flags, flag-at, in-words}
use Rattle.weak_machine.proofs.node_set.NodeSet.has.Goals as goal

pub has_bit-requires : goal.has_bit-requires
has_bit-requires c =
    let s = c.self.inside in
    let view = ap length c.self.view_is in
    let long = length-flags s.words.items s.nodes in
    let asked = c.requires in
    let lt : c.args.node < s.nodes = omega (arith, view, long, asked) in
    subst (λ (words : List ℕ). c.args.node / 64 < length words) (sym c.deref.ensures.value) (in-words s.words.items s.words.items s.nodes s.count c.args.node c.self.invariant lt)

pub returns : goal.returns
returns c =
    let s = c.self.inside in
    let view = ap length c.self.view_is in
    let long = length-flags s.words.items s.nodes in
    let asked = c.requires in
    let lt : c.args.node < s.nodes = omega (arith, view, long, asked) in
    c.has_bit.ensures ∙ ap (λ (words : List ℕ). has_bit words c.args.node) c.deref.ensures.value ∙ sym (flag-at s.words.items s.nodes c.args.node lt) ∙ ap (λ (flags : List Bool). has_flag flags c.args.node) c.self.view_is
