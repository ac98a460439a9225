use Rattle.std.proofs.Common.{◌≡◌, ◌<◌, ℕ, length, get_or}
use Rattle.window_resort.proofs.orders_kept.note_places.Given as goal

abbrev pub invariant-loop-place : goal.invariant-loop-place
invariant-loop-place l = record {
  long : length l.places ≡ length l.initial.places;
  noted : (place : ℕ) → place < l.place → get_or l.places (get_or l.order place 0) 0 ≡ place;
}
