-- An edge more at both ends, and in what is at hand.
use Rattle.std.proofs.Common.{◌∙◌, ◌<◌, length, ap, arith}
use Rattle.std.proofs.lemmas.List.{length-set, with_items_is}
use Rattle.digraph.specs.Digraph.{Digraph}
use Rattle.digraph.proofs.Viewed.{viewed-count, viewed-add}
use Rattle.digraph.proofs.WholeGraph.{graph-push}
use Rattle.digraph.proofs.linked_graph.Graph.add.Goals as goal

pub push-requires-clause-room : goal.push-requires-clause-room
push-requires-clause-room c =
    let count = viewed-count c.self.inside.sources c.self.inside.targets c.self.invariant.paired c.args.self.now c.self.view_is in
    let room = ap (λ (g : Digraph). g.room) c.self.view_is in
    omega (arith, count, room)

pub push-requires-2-clause-room : goal.push-requires-2-clause-room
push-requires-2-clause-room c =
    let count = viewed-count c.self.inside.sources c.self.inside.targets c.self.invariant.paired c.args.self.now c.self.view_is in
    let room = ap (λ (g : Digraph). g.room) c.self.view_is in
    omega (arith, count, room)

pub returns : goal.returns
returns c =
    rw (c.push.ensures.pushed, c.push-2.ensures.pushed) (viewed-add c.self.inside.sources c.self.inside.targets c.self.invariant.paired c.args.self.now c.self.view_is c.args.from c.args.to)

pub invariant_of-self : goal.invariant_of-self
invariant_of-self c =
    let g = c.self.invariant in
    let nodes = ap (λ (g : Digraph). g.nodes) c.self.view_is in
    let from : c.args.from < c.self.inside.sources.kinds = omega (arith, nodes) in
    let to : c.args.to < c.self.inside.sources.kinds = omega (arith, nodes) in
    let near = with_items_is c.self.inside.near c.put_at_hand.new.near (ap length c.put_at_hand.ensures.near ∙ length-set c.deref_mut.result.now _ c.args.to ∙ c.deref_mut.ensures.len) in
    let outs = with_items_is c.self.inside.out_degrees c.put_at_hand.new.out_degrees (ap length c.put_at_hand.ensures.out_degrees ∙ length-set c.deref_mut-2.result.now c.args.from _ ∙ c.deref_mut-2.ensures.len) in
    let ins = with_items_is c.self.inside.in_degrees c.put_at_hand.new.in_degrees (ap length c.put_at_hand.ensures.in_degrees ∙ length-set c.deref_mut-3.result.now c.args.to _ ∙ c.deref_mut-3.ensures.len) in
    rw (near, outs, ins, c.put_at_hand.ensures.near, c.put_at_hand.ensures.out_degrees, c.put_at_hand.ensures.in_degrees, c.deref_mut.ensures.value, c.deref_mut-2.ensures.value, c.deref_mut-3.ensures.value)
    (graph-push c.self.inside.sources c.self.inside.targets c.self.inside.near.items c.self.inside.out_degrees.items c.self.inside.in_degrees.items g c.args.from c.args.to from to
    c.push.new.self c.push-2.new.self c.push.ensures.pushed c.push-2.ensures.pushed c.push.ensures.sound c.push-2.ensures.sound)
