use Rattle.window_resort.specs.Changes.{NotesPlaces}
use Rattle.window_resort.proofs.orders_kept.put_in_place.Given as goal

abbrev pub invariant-loop-index : goal.invariant-loop-index
invariant-loop-index l = NotesPlaces l.window.first l.nodes l.index l.initial.places l.places
