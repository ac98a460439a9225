use Rattle.std.proofs.Common.{◌≡◌, ◌<◌, ◌∙◌, ℕ, List, Option, ap, get_or, take, length, sym, subst, arith}
use Rattle.std.proofs.lemmas.List.{length-map, length-take, get_or-take}
use Rattle.digraph.specs.declared.links.Link.{Link}
use Rattle.digraph.specs.Digraph.{IsLastBelow}
use Rattle.digraph.specs.KeyList.{KeyList, place_of}
use Rattle.digraph.specs.LinkRows.{keys_of, previous_of}
use Rattle.digraph.proofs.Last.{last-same}
use Rattle.digraph.proofs.LinkRows.{previous-at}
use Rattle.digraph.proofs.links.Links.previous.Goals as goal

pub returns : goal.returns
returns c =
    let keys : List ℕ = keys_of c.self.inside.links.items in
    let count = ap (λ (l : KeyList). length l.keys) c.self.view_is in
    let taken = length-take c.self.inside.count keys in
    let size = length-map c.self.inside.links.items (λ (l : Link). l.key) in
    let room = c.self.invariant.room in
    let low : c.args.place < c.self.inside.count = omega (arith, count, taken, room) in
    let link = previous-at c.self.inside.links.items c.args.place c.index.result.now (omega (arith, low, size, room)) c.index.ensures in
    let same : c.at.result ≡ place_of (get_or (previous_of c.self.inside.links.items) c.args.place 0) = c.at.ensures ∙ ap place_of (sym link) in
    let last = subst (λ (r : Option ℕ). IsLastBelow (λ m. get_or keys m 0) (get_or keys c.args.place 0) c.args.place r) (sym same) (c.self.invariant.previous_ones c.args.place low) in
    let front = subst (λ (x : ℕ). IsLastBelow (λ m. get_or keys m 0) x c.args.place c.at.result) (sym (get_or-take c.self.inside.count keys c.args.place 0 low)) last in
    subst (λ (l : KeyList). IsLastBelow (λ m. get_or l.keys m 0) (get_or l.keys c.args.place 0) c.args.place c.at.result) c.self.view_is
    (last-same (λ m. get_or keys m 0) (λ m. get_or (take c.self.inside.count keys) m 0) _ c.args.place c.at.result (λ k lt. get_or-take c.self.inside.count keys k 0 (omega (arith, lt, low))) front)
