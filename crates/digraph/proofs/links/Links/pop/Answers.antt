-- The last key's place is that of the key before it again.
use Rattle.std.proofs.Common.{◌≡◌, ◌<◌, ℕ, ◌+◌, ◌-◌, List, ap, length, set, sym, subst, arith}
use Rattle.std.proofs.lemmas.List.{length-map, length-take}
use Rattle.digraph.specs.declared.links.Link.{Link}
use Rattle.digraph.specs.KeyList.{KeyList, IsLinked}
use Rattle.digraph.specs.LinkRows.{keys_of, previous_of}
use Rattle.digraph.proofs.LinkRows.{key-at, previous-at, linked-pop, linked-sound}
use Rattle.digraph.proofs.links.Links.pop.Goals as goal

pub invariant_of-self : goal.invariant_of-self
invariant_of-self c =
    let links : List Link = c.self.inside.links.items in
    let count = ap (λ (l : KeyList). length l.keys) c.self.view_is in
    let taken = length-take c.self.inside.count (keys_of links) in
    let size = length-map links (λ (l : Link). l.key) in
    let room = c.self.invariant.room in
    let more : c.self.inside.count - 1 + 1 ≡ c.self.inside.count = omega (arith, count, taken, room) in
    let low : c.self.inside.count - 1 < length links = omega (arith, more, size, room) in
    linked-pop (c.self.inside.count - 1) c.index-link.result.now.key c.index-link.result.now.previous (keys_of links) c.self.inside.last.items (previous_of links)
    (subst (λ (n : ℕ). IsLinked n (keys_of links) c.self.inside.last.items (previous_of links)) (sym more) c.self.invariant)
    (key-at links (c.self.inside.count - 1) c.index-link.result.now low c.index-link.ensures)
    (previous-at links (c.self.inside.count - 1) c.index-link.result.now low c.index-link.ensures)

pub returns-clause-inside : goal.returns-clause-inside
returns-clause-inside c =
    let links : List Link = c.self.inside.links.items in
    let kinds = ap (λ (l : KeyList). l.kinds) c.self.view_is in
    let count = ap (λ (l : KeyList). length l.keys) c.self.view_is in
    let taken = length-take c.self.inside.count (keys_of links) in
    let size = length-map links (λ (l : Link). l.key) in
    let room = c.self.invariant.room in
    let low : c.self.inside.count - 1 < length links = omega (arith, count, taken, size, room) in
    let at = key-at links (c.self.inside.count - 1) c.index-link.result.now low c.index-link.ensures in
    let inside = c.self.invariant.inside (c.self.inside.count - 1) (omega (arith, count, taken, room)) in
    omega (arith, at, inside, kinds)

pub returns-clause-sound : goal.returns-clause-sound
returns-clause-sound c =
    let links : List Link = c.self.inside.links.items in
    let count = ap (λ (l : KeyList). length l.keys) c.self.view_is in
    let taken = length-take c.self.inside.count (keys_of links) in
    let size = length-map links (λ (l : Link). l.key) in
    let room = c.self.invariant.room in
    let more : c.self.inside.count - 1 + 1 ≡ c.self.inside.count = omega (arith, count, taken, room) in
    let low : c.self.inside.count - 1 < length links = omega (arith, more, size, room) in
    linked-sound (c.self.inside.count - 1) (keys_of links) (set c.self.inside.last.items c.index-link.result.now.key c.index-link.result.now.previous) (previous_of links)
    (linked-pop (c.self.inside.count - 1) c.index-link.result.now.key c.index-link.result.now.previous (keys_of links) c.self.inside.last.items (previous_of links)
    (subst (λ (n : ℕ). IsLinked n (keys_of links) c.self.inside.last.items (previous_of links)) (sym more) c.self.invariant)
    (key-at links (c.self.inside.count - 1) c.index-link.result.now low c.index-link.ensures)
    (previous-at links (c.self.inside.count - 1) c.index-link.result.now low c.index-link.ensures))
