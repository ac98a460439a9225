-- The last edge goes from both ends, and from what is at hand.
use Rattle.std.proofs.Common.{◌≡◌, ◌∙◌, ℕ, ◌-◌, length, get_or, take, ap, sym, arith}
use Rattle.std.proofs.lemmas.List.{get_or_default}
use Rattle.digraph.specs.Digraph.{Digraph}
use Rattle.digraph.proofs.Viewed.{viewed-count, viewed-take}
use Rattle.digraph.proofs.WholeGraph.{out-some, in-some, graph-pop}
use Rattle.digraph.proofs.linked_graph.Graph.pop.Goals as goal

pub overflow_sub-before : goal.overflow_sub-before
overflow_sub-before c =
    let g = c.self.invariant in
    let count = viewed-count c.self.inside.sources c.self.inside.targets g.paired c.args.self.now c.self.view_is in
    let same = g.paired.count in
    let kinds = g.paired.kinds in
    let long = g.at_hand.outs.long in
    let from = c.pop-from.ensures.inside in
    let to = c.pop-to.ensures.inside in
    let k : ℕ = length c.self.inside.sources.keys - 1 in
    let shift : length c.self.inside.targets.keys - 1 ≡ k = omega (arith, same) in
    out-some c.self.inside.sources c.self.inside.targets c.self.inside.near.items c.self.inside.out_degrees.items c.self.inside.in_degrees.items g k (omega (arith, count)) c.pop-from.result c.pop-to.result
    c.pop-from.ensures.key (c.pop-to.ensures.key ∙ ap (λ (n : ℕ). get_or c.self.inside.targets.keys n 0) shift) from (omega (arith, to, kinds)) c.index.result.now
    (c.index.ensures ∙ get_or_default c.self.inside.out_degrees.items c.pop-from.result c.index.result.now 0 (omega (arith, from, long)))

pub overflow_sub-index_mut : goal.overflow_sub-index_mut
overflow_sub-index_mut c =
    let g = c.self.invariant in
    let count = viewed-count c.self.inside.sources c.self.inside.targets g.paired c.args.self.now c.self.view_is in
    let same = g.paired.count in
    let kinds = g.paired.kinds in
    let long = g.at_hand.ins.long in
    let from = c.pop-from.ensures.inside in
    let to = c.pop-to.ensures.inside in
    let k : ℕ = length c.self.inside.sources.keys - 1 in
    let shift : length c.self.inside.targets.keys - 1 ≡ k = omega (arith, same) in
    in-some c.self.inside.sources c.self.inside.targets c.self.inside.near.items c.self.inside.out_degrees.items c.self.inside.in_degrees.items g k (omega (arith, count)) c.pop-from.result c.pop-to.result
    c.pop-from.ensures.key (c.pop-to.ensures.key ∙ ap (λ (n : ℕ). get_or c.self.inside.targets.keys n 0) shift) from (omega (arith, to, kinds)) c.index_mut-3.result.now
    (c.index_mut-3.ensures.value ∙ get_or_default c.self.inside.in_degrees.items c.pop-to.result c.index_mut-3.result.now 0 (omega (arith, to, kinds, long)))

pub invariant_of-self : goal.invariant_of-self
invariant_of-self c =
    let g = c.self.invariant in
    let count = viewed-count c.self.inside.sources c.self.inside.targets g.paired c.args.self.now c.self.view_is in
    let same = g.paired.count in
    let kinds = g.paired.kinds in
    let long = g.at_hand.outs.long in
    let long_in = g.at_hand.ins.long in
    let from = c.pop-from.ensures.inside in
    let to = c.pop-to.ensures.inside in
    let k : ℕ = length c.self.inside.sources.keys - 1 in
    let shift : length c.self.inside.targets.keys - 1 ≡ k = omega (arith, same) in
    let nodes : c.nodes-nodes.result ≡ c.self.inside.sources.kinds = c.nodes-nodes.ensures.count ∙ sym (ap (λ (g : Digraph). g.nodes) c.self.view_is) in
    rw (c.near_place.ensures, nodes)
    (graph-pop c.self.inside.sources c.self.inside.targets c.self.inside.near.items c.self.inside.out_degrees.items c.self.inside.in_degrees.items g k (omega (arith, count)) c.pop-from.result c.pop-to.result
    c.pop-from.ensures.key (c.pop-to.ensures.key ∙ ap (λ (n : ℕ). get_or c.self.inside.targets.keys n 0) shift) from (omega (arith, to, kinds))
    c.pop-from.new.self c.pop-to.new.self c.pop-from.ensures.taken
    (c.pop-to.ensures.taken ∙ ap (λ (n : ℕ). record { kinds = c.self.inside.targets.kinds; room = c.self.inside.targets.room; keys = take n c.self.inside.targets.keys }) shift)
    c.pop-from.ensures.sound c.pop-to.ensures.sound c.index.result.now c.index_mut-3.result.now
    (c.index.ensures ∙ get_or_default c.self.inside.out_degrees.items c.pop-from.result c.index.result.now 0 (omega (arith, from, long)))
    (c.index_mut-3.ensures.value ∙ get_or_default c.self.inside.in_degrees.items c.pop-to.result c.index_mut-3.result.now 0 (omega (arith, to, kinds, long_in))))

pub returns : goal.returns
returns c =
    let g = c.self.invariant in
    let count = viewed-count c.self.inside.sources c.self.inside.targets g.paired c.args.self.now c.self.view_is in
    let same = g.paired.count in
    let shift : length c.self.inside.targets.keys - 1 ≡ length c.self.inside.sources.keys - 1 = omega (arith, same) in
    rw (c.pop-from.ensures.taken, c.pop-to.ensures.taken, shift, ← count)
    (viewed-take c.self.inside.sources c.self.inside.targets g.paired c.args.self.now c.self.view_is (length c.args.self.now.edges - 1))
