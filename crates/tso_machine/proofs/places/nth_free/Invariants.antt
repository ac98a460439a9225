use Rattle.std.proofs.Common.{◌≡◌, ◌+◌, false, length, take}
use Rattle.std.specs.Prelude.{filter}
use Rattle.std.specs.List.{list_any}
use Rattle.orders.specs.Orders.{nodes_below}
use Rattle.tso_machine.specs.Places.{TellsMet, is_free, is_store_fence_at}
use Rattle.tso_machine.proofs.places.nth_free.Given as goal

abbrev pub invariant-loop-place : goal.invariant-loop-place
invariant-loop-place l = record {
  met : TellsMet l.test (take l.place l.entries) l.met;
  none : list_any (is_store_fence_at l.test) (take l.place l.entries) ≡ false;
  counted : l.left + length (filter (is_free l.test l.entries) (nodes_below l.place)) ≡ l.k;
}
