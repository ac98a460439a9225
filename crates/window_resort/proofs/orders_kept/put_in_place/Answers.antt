-- The places of the window's nodes are noted one after another.
use Rattle.std.proofs.Common.{◌≡◌, ℕ, arith, get_or, length, refl, subst}
use Rattle.window_resort.specs.Changes.{NotesPlaces}
use Rattle.window_resort.proofs.Noting.{nodes_apart, notes_more, places_noted}
use Rattle.window_resort.proofs.orders_kept.put_in_place.Goals as goal

pub loop-index-preserved : goal.loop-index-preserved
loop-index-preserved c =
    let nodes = c.args.nodes.now in
    let index = c.loop-index.index in
    let lt = c.loop-index-test.true in
    let below = c.requires.below index 0 lt in
    let long = c.requires.places.long in
    let same = c.loop-index.invariant.same_length in
    notes_more c.args.window.first nodes index c.args.places.now c.loop-index.places c.loop-index.invariant (get_or nodes index 0) refl
    (λ i sooner. nodes_apart c.args.order.now nodes c.args.window c.requires.last c.requires.first c.requires.nodes c.requires.once i index sooner lt) (omega (arith, below, long, same))

pub returns-clause-places : goal.returns-clause-places
returns-clause-places c =
    let nodes = c.args.nodes.now in
    let past = c.loop-index-test.false in
    let until = c.loop-index.auto.index-end in
    let all : c.loop-index.index ≡ length nodes = omega (arith, past, until) in
    places_noted c.args.order.now nodes c.args.window c.requires.last c.requires.first c.requires.nodes c.requires.once c.args.places.now c.loop-index.places c.requires.places
    (subst (λ (count : ℕ). NotesPlaces c.args.window.first nodes count c.args.places.now c.loop-index.places) all c.loop-index.invariant)
