-- The list begins with the other's keys, whose last places are copied.
use Rattle.std.proofs.Common.{◌≡◌, ℕ, ◌∙◌, List, ap, length, take, sym}
use Rattle.std.proofs.lemmas.List.{length-take-le}
use Rattle.digraph.specs.KeyList.{KeyList}
use Rattle.digraph.specs.LinkRows.{keys_of, previous_of}
use Rattle.digraph.proofs.LinkRows.{linked-begun, linked-sound}
use Rattle.digraph.proofs.links.Links.truncate_to.Goals as goal

begun : goal.invariant_of-self
begun c =
    let keys : List ℕ = keys_of c.self.inside.links.items in
    let start : List ℕ = keys_of c.start.inside.links.items in
    let n : ℕ = c.start.inside.count in
    let few : length c.args.start.now.keys ≡ n = ap (λ (l : KeyList). length l.keys) (sym c.start.view_is) ∙ length-take-le n start c.start.invariant.room in
    let kinds = ap (λ (l : KeyList). l.kinds) c.start.view_is ∙ c.requires.kinds ∙ ap (λ (l : KeyList). l.kinds) (sym c.self.view_is) in
    let begins =
    ap (λ (l : KeyList). take n l.keys) c.self.view_is
    ∙ ap (λ (m : ℕ). take m c.args.self.now.keys) (sym few)
    ∙ c.requires.begins
    ∙ ap (λ (l : KeyList). l.keys) (sym c.start.view_is) in
    rw (c.copy_from_slice.ensures.items, c.deref.ensures.value)
    (linked-begun c.self.inside.count n keys c.self.inside.last.items (previous_of c.self.inside.links.items) start c.start.inside.last.items (previous_of c.start.inside.links.items)
    c.self.invariant c.start.invariant kinds begins)

pub invariant_of-self : goal.invariant_of-self
invariant_of-self c = begun c

pub returns-clause-sound : goal.returns-clause-sound
returns-clause-sound c =
    linked-sound c.start.inside.count (keys_of c.self.inside.links.items) c.copy_from_slice.new.self.items (previous_of c.self.inside.links.items) (begun c)
