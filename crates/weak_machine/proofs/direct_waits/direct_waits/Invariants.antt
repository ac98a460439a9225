use Rattle.std.proofs.Common.{◌≡◌, ◌*◌, ◌≤◌, length, map}
use Rattle.std.specs.Prelude.{filter, sum_by}
use Rattle.orders.specs.Orders.{nodes_below}
use Rattle.test_lang.specs.Program.{all_nodes}
use Rattle.weak_machine.specs.Waiting.{waits_directly}
use Rattle.weak_machine.proofs.direct_waits.direct_waits.Given as goal

abbrev pub invariant-loop-a : goal.invariant-loop-a
invariant-loop-a l = record {
  direct : l.lists ≡ map (λ a. filter (waits_directly l.fault l.test a) (all_nodes l.test)) (nodes_below l.a);
  few : sum_by length l.lists ≤ 2048 * l.a;
}
