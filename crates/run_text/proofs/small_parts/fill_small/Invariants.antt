use Rattle.std.proofs.Common.{◌≡◌, ◌-◌, ◌≤◌, ℕ, List, take, length, true}
use Rattle.run_text.specs.Found.{SoFar}
use Rattle.run_text.proofs.small_parts.fill_small.Given as goal

abbrev pub invariant-loop-place : goal.invariant-loop-place
invariant-loop-place l = record {
  from : l.first ≤ l.place;
  front : take l.first l.places ≡ take l.first l.fn.places;
  read : (values : List ℕ) × SoFar (length l.fn.places - l.first) l.bytes l.left (take l.first l.fn.places) (record { count = l.place - l.first; all_fit = true }) (take l.place l.places) values;
}
