use Rattle.std.proofs.Common.{◌≡◌, false, take}
use Rattle.std.specs.Prelude.{slice_index}
use Rattle.std.specs.List.{list_any}
use Rattle.test_lang.specs.Play.Machines.{holds_back_at}
use Rattle.tso_machine.proofs.places.is_free.Given as goal

abbrev pub invariant-loop-node : goal.invariant-loop-node
invariant-loop-node l = list_any (λ a. holds_back_at l.test a (slice_index l.entries l.place)) (take l.node-index (take l.place l.entries)) ≡ false
