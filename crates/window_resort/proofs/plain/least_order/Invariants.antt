use Rattle.std.proofs.Common.{◌≡◌, ℕ, ◌<◌, get_or, length, take}
use Rattle.orders.specs.Choices.{IsNext}
use Rattle.test_lang.specs.Edges.{Edge}
use Rattle.window_resort.proofs.plain.least_order.Given as goal

abbrev pub invariant-loop : goal.invariant-loop
invariant-loop l = record {
  next : (i : ℕ) → i < length l.order.items → IsNext (Edge l.graph.model l.graph.test.now l.graph.run.now) l.nodes (take i l.order.items) (get_or l.order.items i 0);
  long : length l.order.items ≡ l.counter;
}
