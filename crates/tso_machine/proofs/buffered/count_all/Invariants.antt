use Rattle.std.proofs.Common.{◌≡◌, ◌≤◌, List, All, length, map, sum, take}
use Rattle.orders.specs.Orders.{nodes_below}
use Rattle.test_lang.specs.declared.step.Step.{Step}
use Rattle.tso_machine.specs.Moments.{StandsBehind}
use Rattle.tso_machine.specs.Moves.{thread_choices}
use Rattle.tso_machine.proofs.buffered.count_all.Given as goal

abbrev pub invariant-loop-thread : goal.invariant-loop-thread
invariant-loop-thread l = record {
  counts : (steps : List Step) → StandsBehind l.playing steps → take l.thread l.counts ≡ map (λ t. length (thread_choices l.playing.setup steps t)) (nodes_below l.thread);
  few : All (λ count. count ≤ 2049) (take l.thread l.counts);
  total : l.total ≡ sum (take l.thread l.counts);
}
