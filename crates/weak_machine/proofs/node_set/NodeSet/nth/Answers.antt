use Rattle.std.proofs.Common.{◌≡◌, ◌∙◌, ◌*◌, ◌<◌, ℕ, Bool, List, Some, ap, sym, subst, arith, length}
use Rattle.std.specs.Prelude.{slice_get}
use Rattle.weak_machine.specs.NodeSets.{flagged, set_below}
use Rattle.weak_machine.proofs.Flags.{length-flags, flagged-flags, all-words, nth-within}
use Rattle.weak_machine.proofs.node_set.NodeSet.nth.Goals as goal

pub nth_set-requires-clause-few : goal.nth_set-requires-clause-few
nth_set-requires-clause-few c =
    let words = ap length c.deref.ensures.value in
    let room = c.self.invariant.room in
    let few = c.self.invariant.few in
    omega (arith, words, room, few)

pub nth_set-requires-clause-within : goal.nth_set-requires-clause-within
nth_set-requires-clause-within c =
    let s = c.self.inside in
    let view = ap (λ (flags : List Bool). length (flagged flags)) c.self.view_is in
    let found = ap length (flagged-flags s.words.items s.nodes) in
    let all = ap length (all-words s.words.items s.nodes s.count c.self.invariant) in
    let asked = c.requires in
    subst (λ (words : List ℕ). c.args.k < length (set_below words (64 * length words))) (sym c.deref.ensures.value) (omega (arith, view, found, all, asked))

-- the node stands there among those of the set
found_there : (c : goal.After-nth_set) → slice_get (set_below c.self.inside.words.items c.self.inside.nodes) c.args.k ≡ Some c.nth_set.result
found_there c =
    let s = c.self.inside in
    ap (λ (xs : List ℕ). slice_get xs c.args.k) (sym (all-words s.words.items s.nodes s.count c.self.invariant))
    ∙ ap (λ (words : List ℕ). slice_get (set_below words (64 * length words)) c.args.k) (sym c.deref.ensures.value)
    ∙ c.nth_set.ensures

pub returns-clause-found : goal.returns-clause-found
returns-clause-found c =
    let s = c.self.inside in
    ap (λ (flags : List Bool). slice_get (flagged flags) c.args.k) (sym c.self.view_is) ∙ ap (λ (xs : List ℕ). slice_get xs c.args.k) (flagged-flags s.words.items s.nodes) ∙ found_there c

pub returns-clause-within : goal.returns-clause-within
returns-clause-within c =
    let s = c.self.inside in
    let view = ap length c.self.view_is in
    let long = length-flags s.words.items s.nodes in
    let lt = nth-within s.words.items s.nodes c.args.k c.nth_set.result (found_there c) in
    omega (arith, view, long, lt)
