use Rattle.std.proofs.Common.{◌+◌, ◌≡◌, ◌∙◌, ◌<◌, ◌/◌, ℕ, Bool, List, true, false, ap, sym, subst, arith, length, set}
use Rattle.std.proofs.lemmas.List.{with_items_is}
use Rattle.weak_machine.specs.NodeSets.{has_flag, flags_of, ChangesBit, IsNodeSet}
use Rattle.weak_machine.proofs.Flags.{length-flags, in-words, inserted, changed-flags, count-few}
use Rattle.weak_machine.proofs.node_set.NodeSet.insert.Goals as goal

pub set_bit-requires : goal.set_bit-requires
set_bit-requires c =
    let s = c.self.inside in
    let view = ap length c.self.view_is in
    let long = length-flags s.words.items s.nodes in
    let asked = c.requires.node in
    let lt : c.args.node < s.nodes = omega (arith, view, long, asked) in
    subst (λ (words : List ℕ). c.args.node / 64 < length words) (sym c.deref_mut.ensures.value) (in-words s.words.items s.words.items s.nodes s.count c.args.node c.self.invariant lt)

pub overflow_add-self : goal.overflow_add-self
overflow_add-self c =
    let s = c.self.inside in
    let le = count-few s.words.items s.nodes s.count c.self.invariant in
    let few = c.self.invariant.few in
    omega (arith, le, few)

pub invariant_of-self : goal.invariant_of-self
invariant_of-self c =
    let s = c.self.inside in
    let view = ap length c.self.view_is in
    let long = length-flags s.words.items s.nodes in
    let asked = c.requires.node in
    let lt : c.args.node < s.nodes = omega (arith, view, long, asked) in
    let items = with_items_is s.words c.set_bit.new.words (c.set_bit.auto.words ∙ c.deref_mut.ensures.len) in
    let change : ChangesBit s.words.items c.set_bit.new.words c.args.node true = subst (λ (words : List ℕ). ChangesBit words c.set_bit.new.words c.args.node true) c.deref_mut.ensures.value c.set_bit.ensures in
    let fails : has_flag (flags_of s.words.items s.nodes) c.args.node ≡ false = ap (λ (flags : List Bool). has_flag flags c.args.node) c.self.view_is ∙ c.requires.new in
    subst (λ (words : List ℕ). IsNodeSet words s.nodes (s.count + 1)) (sym items) (inserted s.words.items c.set_bit.new.words s.nodes s.count c.args.node c.self.invariant lt change fails)

pub returns : goal.returns
returns c =
    let s = c.self.inside in
    let view = ap length c.self.view_is in
    let long = length-flags s.words.items s.nodes in
    let asked = c.requires.node in
    let lt : c.args.node < s.nodes = omega (arith, view, long, asked) in
    let items = with_items_is s.words c.set_bit.new.words (c.set_bit.auto.words ∙ c.deref_mut.ensures.len) in
    let change : ChangesBit s.words.items c.set_bit.new.words c.args.node true = subst (λ (words : List ℕ). ChangesBit words c.set_bit.new.words c.args.node true) c.deref_mut.ensures.value c.set_bit.ensures in
    ap (λ (words : List ℕ). flags_of words s.nodes) items
    ∙ changed-flags s.words.items c.set_bit.new.words s.nodes s.count c.args.node c.self.invariant lt true change
    ∙ ap (λ (flags : List Bool). set flags c.args.node true) c.self.view_is
