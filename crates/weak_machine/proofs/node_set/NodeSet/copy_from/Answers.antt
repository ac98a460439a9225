use Rattle.std.proofs.Common.{◌≡◌, ◌∙◌, ℕ, Bool, List, ap, sym, subst, arith, length}
use Rattle.weak_machine.specs.NodeSets.{flags_of, IsNodeSet}
use Rattle.weak_machine.proofs.Flags.{length-flags}
use Rattle.weak_machine.proofs.node_set.NodeSet.copy_from.Goals as goal

-- both are of as many nodes
same_nodes : (words others : List ℕ) (nodes n : ℕ) (flags other : List Bool) → flags_of words nodes ≡ flags → flags_of others n ≡ other → length flags ≡ length other → nodes ≡ n
same_nodes words others nodes n flags other view view_other same = sym (length-flags words nodes) ∙ ap length view ∙ same ∙ sym (ap length view_other) ∙ length-flags others n

pub copy_from_slice-requires : goal.copy_from_slice-requires
copy_from_slice-requires c =
    let same = same_nodes c.self.inside.words.items c.other.inside.words.items c.self.inside.nodes c.other.inside.nodes c.args.self.now c.args.other.now c.self.view_is c.other.view_is c.requires in
    let ok = c.self.inside.words.ok.0 in
    let room = c.self.invariant.room in
    let other = c.other.invariant.room in
    let value = ap length c.deref.ensures.value in
    omega (arith, same, ok, room, other, value)

pub invariant_of-self : goal.invariant_of-self
invariant_of-self c =
    let o = c.other.inside in
    subst (λ (words : List ℕ). IsNodeSet words c.self.inside.nodes o.count) (sym (c.copy_from_slice.ensures.items ∙ c.deref.ensures.value))
    (subst (λ (nodes : ℕ). IsNodeSet o.words.items nodes o.count) (sym (same_nodes c.self.inside.words.items c.other.inside.words.items c.self.inside.nodes c.other.inside.nodes c.args.self.now c.args.other.now c.self.view_is c.other.view_is c.requires)) c.other.invariant)

pub returns : goal.returns
returns c =
    let o = c.other.inside in
    ap (λ (words : List ℕ). flags_of words c.self.inside.nodes) (c.copy_from_slice.ensures.items ∙ c.deref.ensures.value) ∙ ap (flags_of o.words.items) (same_nodes c.self.inside.words.items c.other.inside.words.items c.self.inside.nodes c.other.inside.nodes c.args.self.now c.args.other.now c.self.view_is c.other.view_is c.requires) ∙ c.other.view_is
