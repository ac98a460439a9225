-- More edges at both ends, and in what is at hand.
use Rattle.std.proofs.Common.{◌≡◌, ◌∙◌, ℕ, List, ◌++◌, length, ap, subst, arith}
use Rattle.std.specs.List.{zip}
use Rattle.std.proofs.lemmas.List.{with_items_is}
use Rattle.digraph.specs.AtHand.{TellAtHand}
use Rattle.digraph.specs.Digraph.{Digraph}
use Rattle.digraph.proofs.Viewed.{viewed-count, viewed-count_in, viewed-add_all}
use Rattle.digraph.proofs.WholeGraph.{graph-push_all}
use Rattle.digraph.proofs.linked_graph.Graph.add_all.Goals as goal

pub push_ends-requires-clause-room : goal.push_ends-requires-clause-room
push_ends-requires-clause-room c =
    let count = viewed-count c.self.inside.sources c.self.inside.targets c.self.invariant.paired c.args.self.now c.self.view_is in
    let room = ap (λ (g : Digraph). g.room) c.self.view_is in
    omega (arith, count, room)

pub push_ends-requires-clause-target_room : goal.push_ends-requires-clause-target_room
push_ends-requires-clause-target_room c =
    let count = viewed-count_in c.self.inside.sources c.self.inside.targets c.self.invariant.paired c.args.self.now c.self.view_is in
    let room = ap (λ (g : Digraph). g.room) c.self.view_is in
    let same = c.self.invariant.paired.room in
    omega (arith, count, room, same)

pub returns : goal.returns
returns c =
    rw (c.push_ends.ensures.sources, c.push_ends.ensures.targets) (viewed-add_all c.self.inside.sources c.self.inside.targets c.self.invariant.paired c.args.self.now c.self.view_is c.args.edges.now)

pub invariant_of-self : goal.invariant_of-self
invariant_of-self c =
    let g = c.self.invariant in
    let s = c.self.inside.sources in
    let t = c.self.inside.targets in
    let before : List (ℕ × ℕ) = zip s.keys t.keys in
    let nodes : length c.deref_mut-2.result.now ≡ s.kinds = ap length c.deref_mut-2.ensures.value ∙ g.at_hand.outs.long in
    let near = with_items_is c.self.inside.near c.put_all_at_hand.new.near (c.put_all_at_hand.auto.near ∙ c.deref_mut.ensures.len) in
    let outs = with_items_is c.self.inside.out_degrees c.put_all_at_hand.new.out_degrees (c.put_all_at_hand.auto.out_degrees ∙ c.deref_mut-2.ensures.len) in
    let ins = with_items_is c.self.inside.in_degrees c.put_all_at_hand.new.in_degrees (c.put_all_at_hand.auto.in_degrees ∙ c.deref_mut-3.ensures.len) in
    let told : TellAtHand (length c.deref_mut-2.result.now) before c.deref_mut.result.now c.deref_mut-2.result.now c.deref_mut-3.result.now =
    rw (nodes, c.deref_mut.ensures.value, c.deref_mut-2.ensures.value, c.deref_mut-3.ensures.value) g.at_hand in
    rw (near, outs, ins)
    (graph-push_all s t c.self.inside.near.items c.self.inside.out_degrees.items c.self.inside.in_degrees.items g c.args.edges.now
    c.push_ends.new.sources c.push_ends.new.targets c.push_ends.ensures.sources c.push_ends.ensures.targets c.push_ends.ensures.sound c.push_ends.ensures.sound_targets
    c.put_all_at_hand.new.near c.put_all_at_hand.new.out_degrees c.put_all_at_hand.new.in_degrees
    (subst (λ (n : ℕ). TellAtHand n (before ++ c.args.edges.now) c.put_all_at_hand.new.near c.put_all_at_hand.new.out_degrees c.put_all_at_hand.new.in_degrees) nodes (c.put_all_at_hand.ensures before told)))
