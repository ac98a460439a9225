use Rattle.std.proofs.Common.{◌-◌, ◌≡◌, ◌∙◌, ◌<◌, ◌/◌, ℕ, Bool, List, true, false, ap, sym, subst, arith, length, set}
use Rattle.std.proofs.lemmas.List.{with_items_is}
use Rattle.weak_machine.specs.NodeSets.{has_flag, flags_of, ChangesBit, IsNodeSet}
use Rattle.weak_machine.proofs.Flags.{length-flags, flag-within, in-words, removed, some-counted, changed-flags}
use Rattle.weak_machine.proofs.node_set.NodeSet.remove.Goals as goal

-- a node whose flag is set is one
within : (words : List ℕ) (nodes n : ℕ) → has_flag (flags_of words nodes) n ≡ true → n < nodes
within words nodes n e = let lt = flag-within (flags_of words nodes) n e in let long = length-flags words nodes in omega (arith, lt, long)

pub clear_bit-requires : goal.clear_bit-requires
clear_bit-requires c =
    let s = c.self.inside in
    let holds : has_flag (flags_of s.words.items s.nodes) c.args.node ≡ true = ap (λ (flags : List Bool). has_flag flags c.args.node) c.self.view_is ∙ c.requires in
    let lt = within s.words.items s.nodes c.args.node holds in
    subst (λ (words : List ℕ). c.args.node / 64 < length words) (sym c.deref_mut.ensures.value) (in-words s.words.items s.words.items s.nodes s.count c.args.node c.self.invariant lt)

pub overflow_sub-self : goal.overflow_sub-self
overflow_sub-self c =
    let s = c.self.inside in
    let holds : has_flag (flags_of s.words.items s.nodes) c.args.node ≡ true = ap (λ (flags : List Bool). has_flag flags c.args.node) c.self.view_is ∙ c.requires in
    let lt = within s.words.items s.nodes c.args.node holds in
    let change : ChangesBit s.words.items c.clear_bit.new.words c.args.node false = subst (λ (words : List ℕ). ChangesBit words c.clear_bit.new.words c.args.node false) c.deref_mut.ensures.value c.clear_bit.ensures in
    some-counted s.words.items c.clear_bit.new.words s.nodes s.count c.args.node c.self.invariant lt change holds

pub invariant_of-self : goal.invariant_of-self
invariant_of-self c =
    let s = c.self.inside in
    let holds : has_flag (flags_of s.words.items s.nodes) c.args.node ≡ true = ap (λ (flags : List Bool). has_flag flags c.args.node) c.self.view_is ∙ c.requires in
    let lt = within s.words.items s.nodes c.args.node holds in
    let items = with_items_is s.words c.clear_bit.new.words (c.clear_bit.auto.words ∙ c.deref_mut.ensures.len) in
    let change : ChangesBit s.words.items c.clear_bit.new.words c.args.node false = subst (λ (words : List ℕ). ChangesBit words c.clear_bit.new.words c.args.node false) c.deref_mut.ensures.value c.clear_bit.ensures in
    subst (λ (words : List ℕ). IsNodeSet words s.nodes (s.count - 1)) (sym items) (removed s.words.items c.clear_bit.new.words s.nodes s.count c.args.node c.self.invariant lt change holds)

pub returns : goal.returns
returns c =
    let s = c.self.inside in
    let holds : has_flag (flags_of s.words.items s.nodes) c.args.node ≡ true = ap (λ (flags : List Bool). has_flag flags c.args.node) c.self.view_is ∙ c.requires in
    let lt = within s.words.items s.nodes c.args.node holds in
    let items = with_items_is s.words c.clear_bit.new.words (c.clear_bit.auto.words ∙ c.deref_mut.ensures.len) in
    let change : ChangesBit s.words.items c.clear_bit.new.words c.args.node false = subst (λ (words : List ℕ). ChangesBit words c.clear_bit.new.words c.args.node false) c.deref_mut.ensures.value c.clear_bit.ensures in
    ap (λ (words : List ℕ). flags_of words s.nodes) items
    ∙ changed-flags s.words.items c.clear_bit.new.words s.nodes s.count c.args.node c.self.invariant lt false change
    ∙ ap (λ (flags : List Bool). set flags c.args.node false) c.self.view_is
