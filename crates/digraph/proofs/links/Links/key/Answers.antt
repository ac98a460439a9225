use Rattle.std.proofs.Common.{ap, length, arith}
use Rattle.std.proofs.lemmas.List.{length-map, length-take}
use Rattle.digraph.specs.declared.links.Link.{Link}
use Rattle.digraph.specs.KeyList.{KeyList}
use Rattle.digraph.specs.LinkRows.{keys_of}
use Rattle.digraph.proofs.LinkRows.{key-at}
use Rattle.digraph.proofs.links.Links.key.Goals as goal

pub returns-clause-inside : goal.returns-clause-inside
returns-clause-inside c =
    let kinds = ap (λ (l : KeyList). l.kinds) c.self.view_is in
    let count = ap (λ (l : KeyList). length l.keys) c.self.view_is in
    let taken = length-take c.self.inside.count (keys_of c.self.inside.links.items) in
    let size = length-map c.self.inside.links.items (λ (l : Link). l.key) in
    let room = c.self.invariant.room in
    let at = key-at c.self.inside.links.items c.args.place c.index.result.now (omega (arith, count, taken, size, room)) c.index.ensures in
    let inside = c.self.invariant.inside c.args.place (omega (arith, count, taken, size, room)) in
    omega (arith, at, inside, kinds)
